-- `atan2_base` meets its contract where y's size is not above x's. Assumes nothing.
use Rattle.std.proofs.Common.{◌≡◌, true, false, ◌&&◌, sym}
use Rattle.std.proofs.lemmas.Bool.{and_left}
use lib.Ieee.{le, eq, of_bits}
use Rattle.arithmetic.specs.Numbers.{0·0}
use Rattle.elementary.proofs.Angles.{and_then, base_low}
use Rattle.arctangent.proofs.atan2_base.Goals as goal
use Rattle.arctangent.proofs.atan2_base.Goals.{else-a-via-then-a+else-b, else-a-via-else-a}

pub returns-then-a-b : goal.returns-then-a-b
unfolding of_bits
returns-then-a-b c =
    let a = c.args in
    let below : le a.a a.b ≡ true = c.if-a-b.true in
    let some : (eq a.a 0·0 && eq a.b 0·0) ≡ false =
    elim c.else-a.branch [
      | else-a-via-then-a+else-b w ↦ and_then _ _ _ w.if-a.true w.if-b.false
      | else-a-via-else-a w ↦ and_left _ _ w.if-a.false
    ] in
    sym (base_low a.a a.b a.angle c.requires some below)
