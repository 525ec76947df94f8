-- `remainder::remainder` meets its contract: a smaller value is its own remainder, and otherwise the remainder of the sizes has the sign of x. Assumes nothing.
use mathlib.Core.Path.{◌≡◌, sym, ◌∙◌}
use lib.Ieee.{binary64, rem}
use lib.Ieee.Fits.{rem-fits}
use Rattle.elementary.specs.Signs.{abs, negative}
use Rattle.elementary.proofs.SignBit.{abs_fits, abs_positive}
use Rattle.elementary.proofs.Smaller.{own_remainder}
use Rattle.elementary.proofs.RemainderValues.{signed, unit_times}
use Rattle.elementary.proofs.remainder.remainder.Goals as goal

pub returns-then-a-b : goal.returns-then-a-b
returns-then-a-b c =
    own_remainder c.args.x c.args.y (rw c.well_formed.0.1 tt) (rw (← c.abs-a.ensures, ← c.abs-b.ensures) c.if-a-b.true)

pub of_sizes-requires : goal.of_sizes-requires
of_sizes-requires c =
    let a = c.abs-a in
    let b = c.abs-b in
    (abs_positive c.args.x a.result a.ensures, abs_positive c.args.y b.result b.ensures, c.if-a-b.false)

pub returns : goal.returns
returns c =
    let x = c.args.x in
    let y = c.args.y in
    let r = rem binary64 (abs x) (abs y) in
    let e : c.of_sizes.result ≡ r = rw (← c.abs-a.ensures, ← c.abs-b.ensures) c.of_sizes.ensures in
    let u = unit_times (negative x) r (rem-fits binary64 (abs x) (abs y) (abs_fits x (rw c.well_formed.0.1 tt))) in
    rw (e, c.unit.ensures) (u ∙ sym (signed x y))
