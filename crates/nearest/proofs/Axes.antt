-- The haversine at each of a table's axes is the one at its place of the list. Assumes nothing.
use mathlib.Core.Path.{◌≡◌, refl, ap, ◌∙◌}
use mathlib.Core.List.{List, [], ◌∷◌, map}
use Prim.Native.Nat.{ℕ, zero, suc, ◌+◌, ◌<◌}
use native.Mathlib.Omega.{arith}
use lib.ListN.{length, get_or}
use lib.Ieee.{Float, nan}
use Rattle.arithmetic.specs.Arith.{Arith}
use Rattle.coordinates.specs.declared.spherical.Spherical.{Spherical}
use Rattle.origin.specs.Origins.{origin_at}
use Rattle.nearest.specs.Nearest.{haversine, haversines}

-- m numbers from i on
count : ℕ → ℕ → List ℕ
count i zero = []
count i (suc m) = i ∷ count (suc i) m

counted : (f : ℕ → Float) (i m k : ℕ) → k < m → get_or (map f (count i m)) k nan ≡ f (k + i)
unfolding count
counted f i zero k h = absurd (omega arith)
counted f i (suc m) zero h = let e : i ≡ 0 + i = omega arith in ap f e
counted f i (suc m) (suc k) h = counted f (suc i) m k (omega arith) ∙ ap f (let e : k + suc i ≡ suc k + i = omega arith in e)

pub haversine_at : (A : Arith) (table : List Float) (p : Spherical) (k : ℕ) → k < 12
    → get_or (haversines A table p) k nan ≡ haversine A p (origin_at table k).axis
unfolding haversines count
haversine_at A table p k h =
    let f : ℕ → Float = λ n. haversine A p (origin_at table n).axis in
    counted f 0 12 k h ∙ ap f (let e : k + 0 ≡ k = omega arith in e)

pub haversine_count : (A : Arith) (table : List Float) (p : Spherical) → length (haversines A table p) ≡ 12
unfolding haversines
haversine_count A table p = refl
