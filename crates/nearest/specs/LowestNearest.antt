-- What document 01 says of the nearest origin, "the lowest-numbered origin with the least computed haversine", apart from how it is
-- searched for. Definitions only.
use Rattle.std.specs.Prelude.{ℕ, ◌<◌, ◌≡◌, false, List, length, get_or, Float}
use Rattle.std.specs.Float.{nan, inf}
use Rattle.std.specs.Float.Ieee.{lt, eq}
use Rattle.arithmetic.specs.Arith.{Arith}
use Rattle.coordinates.specs.declared.spherical.Spherical.{Spherical}
use Rattle.nearest.specs.Nearest.{haversines, nearest_origin}

-- The place r holds the least of some floats, and is the lowest place that does. Only one place is so (`least_only` of `proofs/LowestNearest`).
pub record IsLeast (hs : List Float) (r : ℕ) : Type 0 where
  pub place : r < length hs
  -- none is less
  pub least : (i : ℕ) → i < length hs → lt (get_or hs i nan) (get_or hs r nan) ≡ false
  -- none before it is equal
  pub lowest : (i : ℕ) → i < r → eq (get_or hs i nan) (get_or hs r nan) ≡ false
  -- No float is less than a NaN. So: it is NaN or +infinity only where all are, and then its place is 0.
  pub number : lt (get_or hs r nan) (inf false) ≡ false → (r ≡ 0) × ((i : ℕ) → i < length hs → lt (get_or hs i nan) (inf false) ≡ false)

pub record NearestIs (A : Arith) (table : List Float) (p : Spherical) : Type 0 where
  pub origin : nearest_origin A table p < 12
  pub nearest : IsLeast (haversines A table p) (nearest_origin A table p)
