-- A distance is below 1e-5 exactly where its square, as the code computes it, is below the double 1e-10: the root of 1e-10 is 1e-5, and
-- that of the double below it is smaller. Assumes nothing.
use mathlib.Core.Path.{◌≡◌, refl, sym, ap, ◌∙◌}
use Prim.Native.Nat.{◌+◌, ◌^◌}
use lib.Dec.{T, lit<, lit≤}
use lib.Ieee.{Float, binary64, add, sub, mul, lt, fits, of_bits}
use lib.Ieee.Fits.{add-fits}
use lib.Ieee.Positive.{positive}
use Rattle.arithmetic.specs.Arith.{ieee}
use Rattle.arithmetic.specs.Sqrt.{sqrt}
use Rattle.arithmetic.proofs.Count.{count_at}
use Rattle.arithmetic.proofs.SqrtOrder.{Neighbours, unsigned, sqrt_limit}
use Rattle.coordinates.specs.Vector.{x, y, z, length, subtract, vec3_distance}
use Rattle.coordinates.specs.declared.coords.Cartesian.{Cartesian}
use Rattle.crs.specs.Frame.{TOLERANCE, near}
use Rattle.crs.proofs.Squares.{square_unsigned, add_unsigned}

-- 1e-10, and the double below it
abbrev pub squared : Float
squared = of_bits binary64 0x3ddb_7cdf_d9d7_bdbb

abbrev lower : Float
lower = of_bits binary64 0x3ddb_7cdf_d9d7_bdba

neighbours : Neighbours lower squared
neighbours = record {
  digits = 2 ^ 52 + 0xb_7cdf_d9d7_bdba;
  unit = 988;
  wide = lit≤ tt;
  lower_is = count_at 0x3ddb_7cdf_d9d7_bdba (lit< tt) 988 0xb_7cdf_d9d7_bdba refl (lit< tt) (lit< tt);
  upper_is = count_at 0x3ddb_7cdf_d9d7_bdbb (lit< tt) 988 0xb_7cdf_d9d7_bdbb refl (lit< tt) (lit< tt);
}

root_is : sqrt squared ≡ TOLERANCE
unfolding sqrt of_bits TOLERANCE
root_is = refl

root_below : T (lt (sqrt lower) (sqrt squared))
unfolding sqrt of_bits lt
root_below = tt

lower_fits : T (fits binary64 lower)
unfolding fits of_bits
lower_fits = tt

squared_fits : T (fits binary64 squared)
unfolding fits of_bits
squared_fits = tt

positives : T (positive lower) × T (positive squared)
unfolding of_bits
positives = (tt, tt)

limit : (d : Float) → T (fits binary64 d) → T (unsigned d) → lt (sqrt d) (sqrt squared) ≡ lt d squared
limit = sqrt_limit lower squared neighbours lower_fits squared_fits positives.0 positives.1 root_below

-- the square of the distance, before its root is taken
abbrev pub apart : Cartesian → Cartesian → Float
apart p v =
    let dx = sub binary64 (x p) (x v) in
    let dy = sub binary64 (y p) (y v) in
    let dz = sub binary64 (z p) (z v) in
    add binary64 (add binary64 (mul binary64 dx dx) (mul binary64 dy dy)) (mul binary64 dz dz)

pub near_squared : (p v : Cartesian) → lt (apart p v) squared ≡ near ieee p v
unfolding near vec3_distance length subtract
near_squared p v =
    let dx = square_unsigned binary64 (sub binary64 (x p) (x v)) in
    let dy = square_unsigned binary64 (sub binary64 (y p) (y v)) in
    let dz = square_unsigned binary64 (sub binary64 (z p) (z v)) in
    let plus = add_unsigned binary64 in
    sym (limit (apart p v) (add-fits binary64 _ _) (plus _ _ (plus _ _ dx dy) dz)) ∙ ap (lt (sqrt (apart p v))) root_is
