-- The range that normalize_longitude's answers stay in, beside what its contract says. Definitions only.
use Rattle.std.specs.Prelude.{T, Float}
use Rattle.std.specs.Float.{binary64}
use Rattle.std.specs.Float.Ieee.{neg, lt, le, fits}
use Rattle.std.specs.Float.Ieee.Scale.{finite}
use Rattle.arithmetic.specs.Arith.{ieee}
use Rattle.coordinates.specs.Constants.{180·0}
use Rattle.coordinates.specs.CoordinateTransforms.{degrees, normalize_longitude}

-- [−180, 180)
pub record HalfTurns (r : Float) : Type 0 where
  pub least : T (le (neg 180·0) r)
  pub below : T (lt r 180·0)

-- Document 01: "`normalize_longitude` lands in [−180, 180) for every finite input; 180 gives −180". An input is a value that f64 holds; the
-- second half is a marked point (crate known_points).
abbrev pub LongitudeRange : Type 0
LongitudeRange = (x : Float) → T (fits binary64 x) → T (finite x) → HalfTurns (normalize_longitude ieee (degrees x)).0
