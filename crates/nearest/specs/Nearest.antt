-- core/origin.rs: haversine and find_nearest_origin; document 01: "Nearest is the lowest-numbered origin with the least computed haversine." Definitions only.
use Rattle.std.specs.Prelude.{ℕ, suc, true, false, List, [], ◌∷◌, map, Float}
use Rattle.std.specs.Float.{inf}
use Rattle.std.specs.Float.Ieee.{lt}
use Rattle.arithmetic.specs.Arith.{Arith}
use Rattle.elementary.specs.Sine.{sin}
use Rattle.coordinates.specs.Constants.{2·0}
use Rattle.coordinates.specs.declared.spherical.Spherical.{Spherical}
use Rattle.origin.specs.Origins.{origin_at}

-- The place of the least of some numbers, the first of them where several are equal: they stand from place i on, and the least before them is d, at place b.
unfoldable pub least_from : ℕ → List Float → Float → ℕ → ℕ
least_from i [] d b = b
least_from i (h ∷ hs) d b = elim (lt h d) [ true ↦ least_from (suc i) hs h i | false ↦ least_from (suc i) hs d b ]

unfoldable pub least : List Float → ℕ
unfolding least_from
least hs = least_from 0 hs (inf false) 0

module _ (A : Arith) where
  open A use {◌⊕◌, ◌⊖◌, ◌⊗◌, ◌⊘◌}

  infixl 60 ◌⊕◌ ◌⊖◌
  infixl 70 ◌⊗◌ ◌⊘◌
  -- haversine(point, axis): a1 * a1 + a2 * a2 * sin(phi) * sin(phi2)
  unfoldable pub haversine : Spherical → Spherical → Float
  haversine p q =
      let a1 = sin A ((q.phi.0 ⊖ p.phi.0) ⊘ 2·0) in
      let a2 = sin A ((q.theta.0 ⊖ p.theta.0) ⊘ 2·0) in
      a1 ⊗ a1 ⊕ a2 ⊗ a2 ⊗ sin A p.phi.0 ⊗ sin A q.phi.0

  -- from the point to each of a table's twelve axes in turn
  unfoldable pub haversines : List Float → Spherical → List Float
  haversines table p = map (λ k. haversine p (origin_at table k).axis) (0 ∷ 1 ∷ 2 ∷ 3 ∷ 4 ∷ 5 ∷ 6 ∷ 7 ∷ 8 ∷ 9 ∷ 10 ∷ 11 ∷ [])

  -- find_nearest_origin
  unfoldable pub nearest_origin : List Float → Spherical → ℕ
  nearest_origin table p = least (haversines table p)
