-- What is taken for a point tells of the slots used, whatever the buffers hold: they lie in the stores, and the sphere triangle and b × c are
-- those that the set gives for its slot. Assumes nothing.
use mathlib.Core.Path.{◌≡◌, refl, subst}
use mathlib.Core.List.{List}
use Prim.Native.Nat.{ℕ, ◌<◌}
use lib.Ieee.{Float}
use Rattle.answer.specs.Given.{answered}
use Rattle.answer.proofs.Given.{bind_answered}
use Rattle.arithmetic.specs.Arith.{Arith}
use Rattle.coordinates.specs.declared.polar.Polar.{Polar}
use Rattle.origin.specs.Origins.{origin_at}
use Rattle.tiling.specs.Index.{triangle_index, should_reflect}
use Rattle.tiling.proofs.Modulo.{index_below_10}
use Rattle.set.specs.Set.{Set}
use Rattle.set.proofs.Lengths.{Fits}
use Rattle.stores.specs.Slots.{source_slot, sphere_slot}
use Rattle.stores.specs.declared.used.Used.{Used}
use Rattle.stores.specs.Triangles.{sphere_taken, cross_taken}
use Rattle.stores.specs.Taken.{used_for}
use Rattle.stores.proofs.TakenWithin.{answered_same}

pub record UsedOn (A : Arith) (table : List Float) (s : Set) (u : Used) : Type 0 where
  pub fits : Fits s
  pub origin : u.origin < 12
  pub index : u.index < 10
  pub taken : sphere_taken A s (origin_at table u.origin) (sphere_slot u.origin u.index u.reflected) (source_slot u.index u.reflected)
      ≡ answered u.triangle
  pub crossed : cross_taken A s.spheres (sphere_slot u.origin u.index u.reflected) u.triangle ≡ u.bxc

module _ (A : Arith) (table : List Float) (s : Set) where
  -- the sphere triangle taken for a polar point, with the slots used
  pub used_on : (o : ℕ) (polar : Polar) (u : Used) → Fits s → o < 12 → used_for A (origin_at table o) s o polar ≡ answered u → UsedOn A table s u
  unfolding used_for
  used_on o polar u fits h e =
      let i = triangle_index A polar.gamma in
      let r = should_reflect A polar in
      let b = bind_answered (sphere_taken A s (origin_at table o) (sphere_slot o i r) (source_slot i r)) _ u e in
      subst (UsedOn A table s) (answered_same b.2)
      (record { fits = fits; origin = h; index = index_below_10 A polar.gamma; taken = b.1; crossed = refl })
