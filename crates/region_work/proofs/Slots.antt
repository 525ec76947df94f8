-- The slots that a position uses: nothing is written where none is empty. Assumes nothing.
use mathlib.Core.Path.{◌≡◌, refl, ap, ◌∙◌}
use mathlib.Core.Bool.{Bool, true, false, not, ◌||◌, true≢false}
use mathlib.Core.List.{List}
use Prim.Native.Nat.{ℕ, ◌*◌}
use lib.Ieee.{Float}
use Rattle.arithmetic.specs.Arith.{Arith}
use Rattle.set.specs.Sizes.{FACE_WIDTH, SPHERE_WIDTH}
use Rattle.set.specs.Set.{Set}
use Rattle.stores.specs.Slots.{filled, face_slot, source_slot}
use Rattle.stores.specs.Used.{face_written, faces_written, sphere_written, used_written}
use Rattle.stores.specs.declared.used.Used.{Used}
use Rattle.stores.proofs.Written.{full_stays}
use Rattle.region_work.specs.Parts.{slot_empty}

-- ---- none is empty

neither : (a b c : Bool) → (not a || (not b || not c)) ≡ false → (a ≡ true) × (b ≡ true) × (c ≡ true)
neither true true true e = (refl, refl, refl)
neither true true false e = absurd (true≢false e)
neither true false c e = absurd (true≢false e)
neither false b c e = absurd (true≢false e)

module _ (A : Arith) where
  face_full : (xs : List Float) (k : ℕ) → filled xs (k * FACE_WIDTH) ≡ true → face_written A xs k ≡ xs
  unfolding face_written
  face_full xs k full = full_stays FACE_WIDTH xs k _ full

  faces_full : (xs : List Float) (i : ℕ) (r : Bool) → filled xs (face_slot i r * FACE_WIDTH) ≡ true → filled xs (source_slot i r * FACE_WIDTH) ≡ true
      → faces_written A xs i r ≡ xs
  faces_full xs i false own source = face_full xs (face_slot i false) own
  faces_full xs i true own source =
      ap (λ (l : List Float). face_written A l (source_slot i true)) (face_full xs (face_slot i true) own) ∙ face_full xs (source_slot i true) source

  pub nothing_written : (s : Set) (u : Used) → slot_empty s u ≡ false → used_written A s u ≡ s
  unfolding slot_empty sphere_written
  nothing_written s u e =
      let full = neither _ _ _ e in
      let faces = faces_full s.faces u.index u.reflected full.0 full.1 in
      let spheres = full_stays SPHERE_WIDTH s.spheres _ _ full.2 in
      λ j. record { frame = s.frame; faces = faces j; spheres = spheres j }
