-- `perform` meets its contract: forward is made on the call's own origin. Assumes nothing.
use mathlib.Core.Path.{◌≡◌, ◌∙◌}
use borrow.Author.Rules.{rules}
use Rattle.arithmetic.specs.Arith.{ieee}
use Rattle.set.specs.Set.{set_of}
use Rattle.set.specs.Lent.{held}
use Rattle.dodecahedron.specs.Work.{used_of}
use Rattle.dodecahedron.specs.Calls.{forward_given}
use Rattle.histories.proofs.Left.{alone_left}
use Rattle.replay_perform.proofs.perform.Goals as goal

pub returns-in-Forward : goal.returns-in-Forward
returns-in-Forward g c =
    let a = c.args in
    let s = set_of a.frame.now a.face_store.now a.sphere_store.now in
    let work = forward_given ieee (g.O.Origins.table a.origins) s c.in-Forward.p c.in-Forward.o in
    let lent : set_of a.frame.now c.face_store-in-Forward-1.given.0 c.sphere_store-in-Forward-1.given.0 ≡ held c.forward.new.set = search rules in
    rw c.in-Forward.is (lent ∙ c.forward.ensures.leaves.left ∙ alone_left s (used_of work))
