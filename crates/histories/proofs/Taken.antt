-- What holds of a set after every list of calls, and that the triangles which a call then takes are those that are defined. Assumes
-- nothing.
use mathlib.Core.Path.{◌≡◌, refl, sym, ap, ◌∙◌}
use mathlib.Core.Bool.{Bool, true, false, cond}
use mathlib.Core.List.{List, [], ◌∷◌}
use Prim.Native.Nat.{ℕ, ◌+◌, ◌*◌, ◌/◌, ◌%◌, ◌<◌}
use native.Mathlib.Decide.{dec_lt}
use native.Mathlib.Omega.{arith}
use lib.Dec.{leb}
use lib.ListN.{length, length-replicate}
use lib.Ieee.{Float}
use borrow.Author.Tests.{le-leb, lt-leb}
use Rattle.answer.specs.Given.{Given, answered, refused}
use Rattle.arithmetic.specs.Arith.{ieee}
use Rattle.arithmetic.specs.Numbers.{0·0, 1·0}
use Rattle.coordinates.specs.Vector.{cross}
use Rattle.coordinates.specs.declared.coords.Cartesian.{Cartesian}
use Rattle.coordinates.specs.declared.coords.SphericalTriangle.{SphericalTriangle}
use Rattle.origin.specs.Origins.{origin_at}
use Rattle.tiling.specs.FaceTriangles.{face_triangle}
use Rattle.crs.specs.Frame.{frame_rows}
use Rattle.set.specs.Sizes.{FACE_SLOTS, FACE_COORDINATES, FACE_WIDTH, FACE_STORE}
use Rattle.set.specs.Sizes.{SPHERE_SLOTS, SPHERE_COORDINATES, SPHERE_CROSS, SPHERE_WIDTH, SPHERE_STORE}
use Rattle.stores.specs.Slots.{run, filled, face_run, face_in, sphere_run, sphere_in, vector_in}
use Rattle.stores.specs.Slots.{source_slot, sphere_slot}
use Rattle.stores.proofs.Within.{sphere_below}
use Rattle.set.specs.Open.{new_set}
use Rattle.stores.specs.Triangles.{face_taken, sphere_built, sphere_taken, cross_taken}
use Rattle.set.specs.Set.{Set}
use Rattle.histories.specs.Lists.{standing}
use Rattle.histories.specs.Defined.{sphere_defined, slot_at}
use Rattle.stores.proofs.ReadBack.{length_run, run_replicate}
use Rattle.stores.proofs.Written.{slot_part}
use Rattle.histories.proofs.Told.{Since, newly}
use Rattle.histories.proofs.Stores.{slot_of, slot_filled, beyond_empty, Holds}

-- ---- what a slot is defined to hold behind its mark

abbrev pub face_coordinates : ℕ → List Float
face_coordinates k = face_run (face_triangle ieee k)

-- nothing where no triangle is defined: such a slot is never used
abbrev pub run_of : Given SphericalTriangle → List Float
run_of (answered t) = sphere_run t (cross ieee t.b t.c)
run_of (refused n) = []

abbrev pub sphere_coordinates : List Float → List Float → ℕ → List Float
sphere_coordinates table frame k = run_of (sphere_defined table frame k)

-- ---- the set after every list

pub record Good (table : List Float) (w : Since) (s : Set) : Type 0 where
  pub rows : w.frame ≡ frame_rows ieee table
  pub frame : s.frame ≡ w.frame
  pub face_long : length s.faces ≡ FACE_STORE
  pub sphere_long : length s.spheres ≡ SPHERE_STORE
  pub face : Holds FACE_WIDTH FACE_SLOTS face_coordinates w.faces s.faces
  pub sphere : Holds SPHERE_WIDTH SPHERE_SLOTS (sphere_coordinates table w.frame) w.spheres s.spheres

-- a newly opened set
abbrev pub fresh : List Float → Set
fresh table = new_set ieee table

pub fresh_good : (table : List Float) → Good table (newly (standing table (fresh table))) (fresh table)
fresh_good table =
    record {
      rows = refl;
      frame = refl;
      face_long = length-replicate FACE_STORE 0·0;
      sphere_long = length-replicate SPHERE_STORE 0·0;
      face = λ k h. run_replicate FACE_STORE (k * FACE_WIDTH) FACE_WIDTH 0·0 (omega arith);
      sphere = λ k h. run_replicate SPHERE_STORE (k * SPHERE_WIDTH) SPHERE_WIDTH 0·0 (omega arith);
    }

-- ---- slot numbers

-- a sphere slot's number tells its origin, its index and whether it is reflected
pub slot_defined : (table frame : List Float) (o i : ℕ) (r : Bool) → o < 12 → i < 10
    → sphere_defined table frame (sphere_slot o i r) ≡ sphere_built ieee frame (origin_at table o) (face_triangle ieee (source_slot i r))
unfolding sphere_defined
slot_defined table frame o i true g h =
    let k = o * 10 + i + 120 in
    let a : k % 10 ≡ i = omega arith in
    let b : k % 120 / 10 ≡ o = omega arith in
    let c : leb 120 k ≡ true = le-leb 120 k (omega arith) in
    rw (a, b, c)
slot_defined table frame o i false g h =
    let k = o * 10 + i in
    let a : k % 10 ≡ i = omega arith in
    let b : k % 120 / 10 ≡ o = omega arith in
    let c : leb 120 k ≡ false = lt-leb 120 k (omega arith) in
    rw (a, b, c)

-- ---- what a call takes

module _ (table : List Float) (w : Since) (s : Set) (good : Good table w s) where
  -- the slot's number may be any
  pub face_taken_lem : (k : ℕ) → face_taken ieee s.faces k ≡ face_triangle ieee k
  unfolding face_taken
  face_taken_lem k = by (dec_lt k FACE_SLOTS)
    where
      taken : Bool → Type 0
      taken b = cond b (face_in (run s.faces (k * FACE_WIDTH + 1) FACE_COORDINATES)) (face_triangle ieee k) ≡ face_triangle ieee k

      inside : (b : Bool) → slot_at FACE_WIDTH s.faces k ≡ slot_of b FACE_WIDTH (face_coordinates k) → taken (filled s.faces (k * FACE_WIDTH))
      inside true e =
          rw (slot_filled FACE_WIDTH s.faces k (omega arith) true _ e)
          (ap face_in (slot_part FACE_WIDTH s.faces k 1 FACE_COORDINATES _ (omega arith) e))
      inside false e = rw (slot_filled FACE_WIDTH s.faces k (omega arith) false (face_coordinates k) e)

      by : Dec (k < FACE_SLOTS) → taken (filled s.faces (k * FACE_WIDTH))
      by (yes h) = inside (w.faces k) (good.face k h)
      by (no g) = rw (beyond_empty s.faces (k * FACE_WIDTH) (omega (arith, good.face_long)))

  pub sphere_taken_lem : (o i : ℕ) (r : Bool) → o < 12 → i < 10
      → sphere_taken ieee s (origin_at table o) (sphere_slot o i r) (source_slot i r) ≡ sphere_defined table w.frame (sphere_slot o i r)
  unfolding sphere_taken
  sphere_taken_lem o i r g h = go (w.spheres k) (good.sphere k below)
    where
      k : ℕ
      k = sphere_slot o i r

      below : k < SPHERE_SLOTS
      below = sphere_below o i r g h

      built : Given SphericalTriangle
      built = sphere_built ieee s.frame (origin_at table o) (face_taken ieee s.faces (source_slot i r))

      built_is : built ≡ sphere_defined table w.frame k
      built_is = rw (good.frame, face_taken_lem (source_slot i r)) (sym (slot_defined table w.frame o i r g h))

      held : Given SphericalTriangle
      held = answered (sphere_in (run s.spheres (k * SPHERE_WIDTH + 1) SPHERE_COORDINATES))

      long : length (slot_at SPHERE_WIDTH s.spheres k) ≡ SPHERE_WIDTH
      long = length_run s.spheres (k * SPHERE_WIDTH) SPHERE_WIDTH (omega (arith, below, good.sphere_long))

      read : (d : Given SphericalTriangle) → slot_at SPHERE_WIDTH s.spheres k ≡ 1·0 ∷ run_of d → held ≡ d
      read (answered t) e =
          ap (λ (l : List Float). answered (sphere_in l)) (slot_part SPHERE_WIDTH s.spheres k 1 SPHERE_COORDINATES _ (omega arith) e)
      read (refused n) e = absurd (omega (arith, ap length e, long))

      go : (b : Bool) → slot_at SPHERE_WIDTH s.spheres k ≡ slot_of b SPHERE_WIDTH (sphere_coordinates table w.frame k)
          → cond (filled s.spheres (k * SPHERE_WIDTH)) held built ≡ sphere_defined table w.frame k
      go true e = rw (slot_filled SPHERE_WIDTH s.spheres k (omega arith) true _ e) (read (sphere_defined table w.frame k) e)
      go false e =
          rw (slot_filled SPHERE_WIDTH s.spheres k (omega arith) false (sphere_coordinates table w.frame k) e) built_is

  -- and b × c is that of the triangle defined for the slot, read or formed
  pub cross_taken_lem : (k : ℕ) (t : SphericalTriangle) → k < SPHERE_SLOTS → sphere_defined table w.frame k ≡ answered t
      → cross_taken ieee s.spheres k t ≡ cross ieee t.b t.c
  unfolding cross_taken
  cross_taken_lem k t h e = go (w.spheres k) (good.sphere k h)
    where
      own : Cartesian
      own = cross ieee t.b t.c

      held : Cartesian
      held = vector_in (run s.spheres (k * SPHERE_WIDTH + SPHERE_CROSS) 3)

      go : (b : Bool) → slot_at SPHERE_WIDTH s.spheres k ≡ slot_of b SPHERE_WIDTH (sphere_coordinates table w.frame k)
          → cond (filled s.spheres (k * SPHERE_WIDTH)) held own ≡ own
      go true f =
          let holds : slot_at SPHERE_WIDTH s.spheres k ≡ 1·0 ∷ sphere_run t own = f ∙ ap (λ (d : Given SphericalTriangle). 1·0 ∷ run_of d) e in
          rw (slot_filled SPHERE_WIDTH s.spheres k (omega arith) true _ f)
          (ap vector_in (slot_part SPHERE_WIDTH s.spheres k SPHERE_CROSS 3 _ (omega arith) holds))
      go false f = rw (slot_filled SPHERE_WIDTH s.spheres k (omega arith) false (sphere_coordinates table w.frame k) f)
