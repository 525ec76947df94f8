-- The angle of a candidate about an origin's axis is within 16. Assumes nothing.
use mathlib.Core.Path.{◌≡◌}
use Prim.Native.Nat.{ℕ, ◌≤◌, ◌<◌}
use native.Mathlib.Nat.{mul-le-mul_right}
use native.Mathlib.Omega.{arith}
use mathlib.Core.Bool.{false}
use lib.IntN.{pos}
use lib.Dec.{lit≤}
use lib.Ieee.{Float, binary64, round, add, mul, div, le, of_bits, of_int}
use Rattle.arithmetic.proofs.Bounds.{Within, own, round_within, mul_within, div_within}
use Rattle.arithmetic.proofs.Bounded.{bounded, add_bounded}
use Rattle.elementary.specs.Constants.{PI}
use Rattle.elementary.specs.Sine.{beyond, outside}
use Rattle.elementary.proofs.Inside.{beyond_bounded, inside_by}
use Rattle.coordinates.specs.Constants.{8·0}
use Rattle.origin.specs.Constants.{5·0}

tenths : (m : ℕ) → m < 10 → Within (round binary64 false m 1) (round binary64 false 9 1)
unfolding round
tenths m h = let l : m ≤ 9 = omega arith in round_within binary64 false m 1 9 1 (lit≤ tt) (lit≤ tt) (mul-le-mul_right 1 l) tt

pub around_inside : (m : ℕ) (a : Float) → m < 10 → beyond 8·0 a ≡ false
    → outside (add binary64 (div binary64 (mul binary64 (of_int binary64 (pos m)) PI) 5·0) a) ≡ false
unfolding of_int round add mul div le PI of_bits
around_inside m a h j =
    let w = div_within binary64 (mul_within binary64 (tenths m h) (own PI tt tt) tt) (own 5·0 tt tt) tt tt in
    inside_by _ (add_bounded binary64 (bounded w) (beyond_bounded a 1 (pos 3) j) tt) tt tt tt
