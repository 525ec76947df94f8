-- `on_origin` meets its contract: a table that passed has sound numbers, and a set that passed with a number below 12 passes 1 to 4. Assumes nothing.
use Rattle.arithmetic.specs.Arith.{ieee}
use Rattle.origin.proofs.Sizes.{sound_small, small_angle}
use Rattle.set.proofs.Lengths.{with_passed, call_passes}
use Rattle.calls.proofs.on_origin.Goals as goal

pub invariant_of-origin : goal.invariant_of-origin
invariant_of-origin g c =
    let table = (with_passed ieee _ _ c.requires.tests).1 in
    record { small = rw c.get_origin.ensures (small_angle _ (sound_small _ table _ c.requires.id)) }

pub invariant_of-result : goal.invariant_of-result
invariant_of-result g c = record { passes = call_passes _ _ (with_passed ieee _ _ c.requires.tests).0 c.requires.id }
