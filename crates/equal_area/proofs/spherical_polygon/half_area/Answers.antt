-- `spherical_polygon::half_area` meets its contract: the angle that the code knows is computed. Assumes nothing.
use mathlib.Core.Path.{◌≡◌, refl, sym, ◌∙◌}
use lib.Ieee.{binary64, of_bits}
use Rattle.arithmetic.specs.Arith.{Arith, ieee}
use Rattle.arithmetic.proofs.Quick.{quick, in_ieee}
use Rattle.elementary.specs.Arctangent.{atan2}
use Rattle.equal_area.proofs.spherical_polygon.half_area.Goals as goal

-- 0.18759247408508, 3.5794776396065218 and 0.05235987755982991
abbrev Known : Arith → Type 0
Known A = of_bits binary64 0x3faa_cee9_f37b_ebd9 ≡ atan2 A (of_bits binary64 0x3fc8_0307_ba95_e81e) (of_bits binary64 0x400c_a2c5_2c36_fc7d)

known : Known ieee
unfolding atan2 of_bits quick
known = in_ieee Known refl

pub returns-then-has_bits-2 : goal.returns-then-has_bits-2
unfolding of_bits
returns-then-has_bits-2 c = known ∙ sym (rw (c.has_bits.ensures c.if-has_bits.true, c.has_bits-then-has_bits.ensures c.if-has_bits-2.true))
