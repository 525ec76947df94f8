-- `Seen::take_in` meets its contract, by whether the position is the first one. Assumes nothing.
use mathlib.Core.Path.{refl}
use mathlib.Core.Bool.{or-false}
use borrow.Author.Tests.{eq-eqb}
use Rattle.region_work.specs.Parts.{seen_next}
use Rattle.region_work.proofs.seen.Seen.take_in.Goals.{then-self, else-self}
use Rattle.region_work.proofs.seen.Seen.take_in.Goals as goal

pub returns : goal.returns
unfolding seen_next
returns c =
    let o = c.args.place.origin in
    elim c.if-self.branch [
      | else-self w ↦ rw (c.grow.ensures, w.self-is, w.if-self.false) refl
      | then-self w ↦ rw (c.grow.ensures, w.self-is, w.if-self.true, eq-eqb o o refl, or-false) refl
    ]
