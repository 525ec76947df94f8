-- What show and its companion say after every list of calls: filled for a slot that has been used, with the coordinates defined for it,
-- and empty for any other. Assumes nothing.
use mathlib.Core.Path.{◌≡◌, ap, ◌∙◌}
use mathlib.Core.Bool.{Bool, true, false}
use mathlib.Core.List.{List, []}
use Prim.Native.Nat.{ℕ, ◌+◌, ◌*◌, ◌<◌}
use native.Mathlib.Omega.{arith}
use lib.ListN.{length}
use lib.Ieee.{Float}
use borrow.Author.Tests.{lt-leb}
use Rattle.answer.specs.Given.{Given, answered, passed}
use Rattle.arithmetic.specs.Arith.{ieee}
use Rattle.coordinates.specs.declared.coords.SphericalTriangle.{SphericalTriangle}
use Rattle.tiling.specs.FaceTriangles.{face_triangle}
use Rattle.set.specs.Sizes.{FACE_SLOTS, FACE_COORDINATES, FACE_WIDTH, FACE_STORE}
use Rattle.set.specs.Sizes.{SPHERE_SLOTS, SPHERE_COORDINATES, SPHERE_WIDTH, SPHERE_STORE}
use Rattle.stores.specs.Slots as slots
use Rattle.stores.specs.Slots.{filled, face_run, triangle_run}
use Rattle.stores.specs.Show.{named, slots_in, width_in, coordinates_in, slot_given, where_filled, part_shown}
use Rattle.stores.specs.declared.show.StoreKind.{StoreKind}
use Rattle.stores.specs.declared.show.StoreKind.TheVariants as kind
use Rattle.set.specs.Set.{Set}
use Rattle.set.specs.Open.{open_given}
use Rattle.histories.specs.Lists.{Call}
use Rattle.histories.specs.Defined.{sphere_defined}
use Rattle.histories.specs.EveryList.{left, last_open}
use Rattle.stores.proofs.Written.{slot_part}
use Rattle.histories.proofs.Told.{since_open}
use Rattle.histories.proofs.Theorem.{good_left, face_mark, sphere_mark, face_slot, sphere_triangle}

-- the companion's answer, and show's part, on a set
abbrev pub state_on : Set → StoreKind → ℕ → Given Bool
state_on s kind k = slot_given s.faces s.spheres kind k

abbrev pub shown_on : Set → StoreKind → ℕ → List Float
shown_on s kind k = part_shown s.faces s.spheres kind k

-- where the lengths are right and the slot is there, the companion looks at the mark
state_is : (s : Set) (which : StoreKind) (k : ℕ) (b : Bool) → length s.faces ≡ FACE_STORE → length s.spheres ≡ SPHERE_STORE → k < slots_in which
    → filled (named which s.faces s.spheres) (k * width_in which) ≡ b → state_on s which k ≡ answered b
unfolding slot_given
state_is s which k b f g h e = rw (f, g, lt-leb (slots_in which) k h, e)

part_is : (s : Set) (which : StoreKind) (k : ℕ) (b : Bool) → state_on s which k ≡ answered b
    → shown_on s which k ≡ where_filled (answered b) (slots.run (named which s.faces s.spheres) (k * width_in which + 1) (coordinates_in which))
unfolding part_shown
part_is s which k b e = rw e

module _ (t : List Float) (b : Set) (ready : open_given ieee t b ≡ passed) (cs : List Call) where
  abbrev now : Set
  now = (left t b cs).set

  pub face_state : (k : ℕ) → k < FACE_SLOTS → state_on now kind.Face k ≡ answered ((since_open t b cs).faces k)
  face_state k h =
      let good = good_left t b ready cs in
      state_is now kind.Face k _ good.face_long good.sphere_long h (face_mark t b ready cs k h)

  pub sphere_state : (k : ℕ) → k < SPHERE_SLOTS → state_on now kind.Sphere k ≡ answered ((since_open t b cs).spheres k)
  sphere_state k h =
      let good = good_left t b ready cs in
      state_is now kind.Sphere k _ good.face_long good.sphere_long h (sphere_mark t b ready cs k h)

  -- a used slot's part is the triangle defined for it, without b × c
  pub face_shown : (k : ℕ) → k < FACE_SLOTS → (since_open t b cs).faces k ≡ true → shown_on now kind.Face k ≡ face_run (face_triangle ieee k)
  face_shown k h u =
      part_is now kind.Face k true (face_state k h ∙ ap answered u)
      ∙ slot_part FACE_WIDTH now.faces k 1 FACE_COORDINATES _ (omega arith) (face_slot t b ready cs k true h u)

  pub sphere_shown : (k : ℕ) → k < SPHERE_SLOTS → (since_open t b cs).spheres k ≡ true
      → (d : SphericalTriangle) × (sphere_defined (last_open t b cs).table (last_open t b cs).set.frame k ≡ answered d)
      × (shown_on now kind.Sphere k ≡ triangle_run d)
  sphere_shown k h u =
      let held = sphere_triangle t b ready cs k h u in
      let part = part_is now kind.Sphere k true (sphere_state k h ∙ ap answered u) in
      (held.0, held.1, part ∙ slot_part SPHERE_WIDTH now.spheres k 1 SPHERE_COORDINATES _ (omega arith) held.2)

  -- and any other's is empty
  pub face_not_shown : (k : ℕ) → k < FACE_SLOTS → (since_open t b cs).faces k ≡ false → shown_on now kind.Face k ≡ []
  face_not_shown k h u = part_is now kind.Face k false (face_state k h ∙ ap answered u)

  pub sphere_not_shown : (k : ℕ) → k < SPHERE_SLOTS → (since_open t b cs).spheres k ≡ false → shown_on now kind.Sphere k ≡ []
  sphere_not_shown k h u = part_is now kind.Sphere k false (sphere_state k h ∙ ap answered u)
