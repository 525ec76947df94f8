-- A quicker test that the lookup finds a row. It looks only at rows that agree with the point in ten binary places, and
-- there tests what the lookup tests. The lookup then finds that row or an earlier one, so a wrong choice of rows could
-- only make the test fail. Assumes nothing.
use mathlib.Core.Path.{refl}
use mathlib.Core.Bool.{Bool, true, false, cond}
use mathlib.Core.List.{List, [], ◌∷◌}
use Prim.Native.Nat.{ℕ, ◌+◌, ◌-◌, ◌*◌, ◌/◌}
use lib.Dec.{T, eqb}
use lib.Ieee.{Float, nan, inf, fin, up, down, lt}
use Rattle.answer.specs.Given.{Given, answered}
use Rattle.arithmetic.specs.Arith.{Arith}
use Rattle.coordinates.specs.Vector.{x, y, z, cartesian, vec3_distance}
use Rattle.coordinates.specs.declared.coords.Cartesian.{Cartesian}
use Rattle.crs.specs.Frame.{TOLERANCE, near, find_vertex}
use Rattle.frame_data.specs.Claims.{Answers}

-- a number to ten binary places, and 4 more
unfoldable coarse : Float → ℕ
coarse nan = 0
coarse (inf s) = 0
coarse (fin s m e) = let q = (m * up e * 2048 + down e) / (2 * down e) in cond s (4096 - q) (4096 + q)

unfoldable key : Cartesian → ℕ
unfolding coarse
key v = (coarse (x v) * 16384 + coarse (y v)) * 16384 + coarse (z v)

module _ (A : Arith) where
  -- some row with the key of v is near it
  unfoldable pub seek : Cartesian → List Float → Bool
  unfolding key near vec3_distance lt TOLERANCE
  seek v [] = false
  seek v (a ∷ []) = false
  seek v (a ∷ b ∷ []) = false
  seek v (a ∷ b ∷ c ∷ rows) =
      elim (eqb (key v) (key (cartesian a b c))) [
        | true ↦ elim (near A v (cartesian a b c)) [ true ↦ true | false ↦ seek v rows ]
        | false ↦ seek v rows
      ]

  pub seek_found : (v : Cartesian) (rows : List Float) → T (seek v rows) → Answers (find_vertex A rows v)
  unfolding seek find_vertex
  seek_found v [] t = absurd t
  seek_found v (a ∷ []) t = absurd t
  seek_found v (a ∷ b ∷ []) t = absurd t
  seek_found v (a ∷ b ∷ c ∷ rows) t =
      let r = cartesian a b c in
      go r (eqb (key v) (key r)) (near A v r) (seek v rows) (find_vertex A rows v) (seek_found v rows) t
    where
      go : (r : Cartesian) (alike close later : Bool) (found : Given Cartesian) → (T later → Answers found)
          → T (elim alike [ true ↦ elim close [ true ↦ true | false ↦ later ] | false ↦ later ])
          → Answers {X = Cartesian} (elim close [ true ↦ answered r | false ↦ found ])
      go r alike true later found ih h = (r, refl)
      go r true false later found ih h = ih h
      go r false false later found ih h = ih h
