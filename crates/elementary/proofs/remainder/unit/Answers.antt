-- `remainder::unit` meets its contract. Assumes nothing.
use mathlib.Core.Path.{◌≡◌}
use mathlib.Core.Bool.{cond}
use Prim.Native.Nat.{◌*◌, ◌/◌, ◌%◌, ◌^◌}
use Rattle.elementary.specs.Signs.{negative}
use Rattle.elementary.proofs.RemainderValues.{top_bit, unit_pattern}
use Rattle.elementary.proofs.remainder.unit.Goals as goal

sign : (c : goal.After-bits) → c.bits.result / 2 ^ 63 * 2 ^ 63 % 2 ^ 64 ≡ cond (negative c.args.x) (2 ^ 63) 0
sign c = rw c.bits.ensures (top_bit c.args.x (rw c.well_formed.0.1 tt))

pub float_from_bits-result : goal.float_from_bits-result
float_from_bits-result c = rw (sign c) (unit_pattern (negative c.args.x)).1

pub returns : goal.returns
returns c = rw (sign c) (unit_pattern (negative c.args.x)).0
