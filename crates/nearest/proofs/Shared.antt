-- A haversine put together from the parts that the code shares: the squared half sines of both differences, the sine of the point's phi,
-- and that of the axis's. Assumes nothing.
use mathlib.Core.Path.{◌≡◌, sym}
use lib.Ieee.{Float, binary64, add, sub, mul, div}
use Rattle.arithmetic.specs.Arith.{ieee}
use Rattle.elementary.specs.Sine.{sin}
use Rattle.coordinates.specs.Constants.{2·0}
use Rattle.coordinates.specs.declared.spherical.Spherical.{Spherical}
use Rattle.nearest.specs.Nearest.{haversine}

-- the squared sine of half of d
abbrev pub half : Float → Float
half d = mul binary64 (sin ieee (div binary64 d 2·0)) (sin ieee (div binary64 d 2·0))

-- a and t are the squared half sines, z the sine of the point's phi, s that of the axis's
pub joined : (p q : Spherical) {a t z s : Float} → a ≡ half (sub binary64 q.phi.0 p.phi.0) → t ≡ half (sub binary64 q.theta.0 p.theta.0)
    → z ≡ sin ieee p.phi.0 → sin ieee q.phi.0 ≡ s → add binary64 a (mul binary64 (mul binary64 t z) s) ≡ haversine ieee p q
unfolding haversine
joined p q f g h e = λ i. add binary64 (f i) (mul binary64 (mul binary64 (g i) (h i)) (sym e i))
