-- What an answered place stores changes nothing that a later one takes, whatever the buffers hold: an empty slot gets what every later
-- call would have built for it, the frame is not written, and another slot is as it was. So what place gives for a position is the same
-- before and after another one is placed, and after a list. Assumes nothing.
use mathlib.Core.Path.{◌≡◌, refl, sym, ap, ap₂, ◌∙◌}
use mathlib.Core.Bool.{Bool, true, false}
use mathlib.Core.List.{List, [], ◌∷◌}
use Prim.Native.Nat.{ℕ, ◌*◌, ◌<◌}
use native.Mathlib.Omega.{arith}
use lib.Ieee.{Float}
use lib.ListN.{length}
use Rattle.answer.specs.Given.{Given, answered, refused, and_then, bind}
use Rattle.arithmetic.specs.Arith.{Arith}
use Rattle.coordinates.specs.CoordinateTransforms.{from_lon_lat, to_cartesian}
use Rattle.coordinates.specs.Conversions.{check_lon_lat}
use Rattle.coordinates.specs.Vector.{cross}
use Rattle.coordinates.specs.declared.coords.Cartesian.{Cartesian}
use Rattle.coordinates.specs.declared.coords.Face.{Face}
use Rattle.coordinates.specs.declared.coords.FaceTriangle.{FaceTriangle}
use Rattle.coordinates.specs.declared.coords.SphericalTriangle.{SphericalTriangle}
use Rattle.coordinates.specs.declared.lonlat.LonLat.{LonLat}
use Rattle.coordinates.specs.declared.polar.Polar.{Polar}
use Rattle.coordinates.specs.declared.spherical.Spherical.{Spherical}
use Rattle.origin.specs.Origins.{origin_at}
use Rattle.origin.specs.Table.{check_table}
use Rattle.nearest.specs.Nearest.{nearest_origin}
use Rattle.nearest.proofs.LowestNearest.{nearest_is}
use Rattle.tiling.specs.FaceTriangles.{face_triangle}
use Rattle.tiling.specs.Index.{triangle_index, should_reflect}
use Rattle.tiling.proofs.Modulo.{index_below_10}
use Rattle.equal_area.specs.EqualArea.{forward}
use Rattle.set.specs.Sizes.{FACE_SLOTS, FACE_COORDINATES, FACE_WIDTH, FACE_STORE, SPHERE_COORDINATES, SPHERE_CROSS, SPHERE_WIDTH}
use Rattle.set.specs.Set.{Set, check_set}
use Rattle.stores.specs.Slots.{run, filled, face_run, face_in, sphere_run, sphere_in, vector_in, face_slot, source_slot, sphere_slot}
use Rattle.stores.specs.Used.{face_written, faces_written, sphere_written, used_written}
use Rattle.stores.specs.declared.used.Used.{Used}
use Rattle.stores.proofs.Within.{face_below, source_below, sphere_below}
use Rattle.stores.proofs.Written.{slot_at, taken_of, written_length, slot_part, still_taken}
use Rattle.stores.specs.Triangles.{face_taken, sphere_built, sphere_taken, cross_taken}
use Rattle.stores.specs.Taken.{face_for, used_for}
use Rattle.stores.proofs.TakenWithin.{answered_same}
use Rattle.stores.proofs.Uses.{UsedOn}
use Rattle.dodecahedron.specs.Place.{finite_place}
use Rattle.dodecahedron.specs.Work.{answer_of, used_of, set_used, finish}
use Rattle.dodecahedron.specs.declared.work.Work.{Work}
use Rattle.dodecahedron.specs.Projection.{frame_constants, polar_about, forward_core}
use Rattle.dodecahedron.specs.Calls.{place_given, place_on}
use Rattle.dodecahedron.specs.declared.place.Place.{Place}
use Rattle.dodecahedron.proofs.Ended.{place_is, place_used}
use Rattle.place_list.specs.Lists.{result_of, placed_one, placed_in_turn}
use Rattle.place_list.specs.declared.PlaceResult.{PlaceResult}

-- a sphere slot's number tells its origin, its index and whether it is reflected
slot_tells : (o i o' i' : ℕ) (r r' : Bool) → o < 12 → i < 10 → o' < 12 → i' < 10 → sphere_slot o i r ≡ sphere_slot o' i' r' → (o ≡ o') × (i ≡ i') × (r ≡ r')
slot_tells o i o' i' true true a b c d e = (omega arith, omega arith, refl)
slot_tells o i o' i' false false a b c d e = (omega arith, omega arith, refl)
slot_tells o i o' i' true false a b c d e = absurd (omega arith)
slot_tells o i o' i' false true a b c d e = absurd (omega arith)

module _ (A : Arith) where
  -- ---- what is taken of a slot, as one that is read where it is filled

  abbrev face_read : List Float → FaceTriangle
  face_read l = face_in (run l 1 FACE_COORDINATES)

  abbrev sphere_read : List Float → Given SphericalTriangle
  sphere_read l = answered (sphere_in (run l 1 SPHERE_COORDINATES))

  abbrev cross_read : List Float → Cartesian
  cross_read l = vector_in (run l SPHERE_CROSS 3)

  face_as : (store : List Float) (k : ℕ) → face_taken A store k ≡ taken_of FACE_WIDTH store k face_read (face_triangle A k)
  unfolding face_taken
  face_as store k = rw (slot_part FACE_WIDTH store k 1 FACE_COORDINATES (slot_at FACE_WIDTH store k) (omega arith) refl)

  sphere_as : (s : Set) (k j : ℕ) (o : ℕ) (table : List Float)
      → sphere_taken A s (origin_at table o) k j
      ≡ taken_of SPHERE_WIDTH s.spheres k sphere_read (sphere_built A s.frame (origin_at table o) (face_taken A s.faces j))
  unfolding sphere_taken
  sphere_as s k j o table = rw (slot_part SPHERE_WIDTH s.spheres k 1 SPHERE_COORDINATES (slot_at SPHERE_WIDTH s.spheres k) (omega arith) refl)

  cross_as : (store : List Float) (k : ℕ) (t : SphericalTriangle) → cross_taken A store k t ≡ taken_of SPHERE_WIDTH store k cross_read (cross A t.b t.c)
  unfolding cross_taken
  cross_as store k t = rw (slot_part SPHERE_WIDTH store k SPHERE_CROSS 3 (slot_at SPHERE_WIDTH store k) (omega arith) refl)

  -- ---- the face store

  module _ (xs : List Float) (k : ℕ) (long : length xs ≡ FACE_STORE) (below : k < FACE_SLOTS) where
    face_long : length (face_written A xs k) ≡ length xs
    unfolding face_written
    face_long = written_length FACE_WIDTH xs k (face_run (face_triangle A k)) refl (omega arith)

    face_still : (j : ℕ) → face_taken A (face_written A xs k) j ≡ face_taken A xs j
    unfolding face_written
    face_still j =
        face_as (face_written A xs k) j
        ∙ still_taken FACE_WIDTH xs k (face_run (face_triangle A k)) refl (omega arith) j face_read (face_triangle A j)
        (λ e empty. ap (face_triangle A) (sym e))
        ∙ sym (face_as xs j)

  module _ (xs : List Float) (i : ℕ) (long : length xs ≡ FACE_STORE) (small : i < 10) where
    faces_long : (r : Bool) → length (faces_written A xs i r) ≡ length xs
    faces_long false = face_long xs (face_slot i false) long (face_below i false small)
    faces_long true =
        let own = face_long xs (face_slot i true) long (face_below i true small) in
        face_long (face_written A xs (face_slot i true)) (source_slot i true) (own ∙ long) (source_below i true small) ∙ own

    faces_still : (r : Bool) (j : ℕ) → face_taken A (faces_written A xs i r) j ≡ face_taken A xs j
    faces_still false j = face_still xs (face_slot i false) long (face_below i false small) j
    faces_still true j =
        let own = face_long xs (face_slot i true) long (face_below i true small) in
        face_still (face_written A xs (face_slot i true)) (source_slot i true) (own ∙ long) (source_below i true small) j
        ∙ face_still xs (face_slot i true) long (face_below i true small) j

  module _ (table : List Float) where
    -- ---- after the slots u were written on the set s
    module _ (s : Set) (u : Used) (on : UsedOn A table s u) where
      abbrev left : Set
      left = used_written A s u

      abbrev slot : ℕ
      slot = sphere_slot u.origin u.index u.reflected

      -- its three buffers keep their lengths
      same_check : check_set left ≡ check_set s
      unfolding check_set sphere_written
      same_check =
          let below = sphere_below u.origin u.index u.reflected on.origin on.index in
          let run = sphere_run u.triangle u.bxc in
          let long = on.fits.spheres in
          rw (
            faces_long s.faces u.index on.fits.faces on.index u.reflected,
            written_length SPHERE_WIDTH s.spheres slot run refl (omega (arith, below, long)),
          )

      same_face : (j : ℕ) → face_taken A left.faces j ≡ face_taken A s.faces j
      same_face j = faces_still s.faces u.index on.fits.faces on.index u.reflected j

      -- one sphere slot, by origin, index and reflection
      module _ (o i : ℕ) (r : Bool) (known : o < 12) (small : i < 10) where
        abbrev own : ℕ
        own = sphere_slot o i r

        abbrev taken_on : Set → Given SphericalTriangle
        taken_on set = sphere_taken A set (origin_at table o) own (source_slot i r)

        -- the slot that was written had the triangle that is taken here too
        same_slot : own ≡ slot → taken_on s ≡ answered u.triangle
        same_slot e =
            let tells = slot_tells o i u.origin u.index r u.reflected known small on.origin on.index e in
            (λ j. sphere_taken A s (origin_at table (tells.0 j)) (sphere_slot (tells.0 j) (tells.1 j) (tells.2 j)) (source_slot (tells.1 j) (tells.2 j)))
            ∙ on.taken

        empty_built : filled s.spheres (own * SPHERE_WIDTH) ≡ false
            → taken_on s ≡ sphere_built A s.frame (origin_at table o) (face_taken A s.faces (source_slot i r))
        unfolding sphere_taken
        empty_built e = rw e

        empty_crossed : (t : SphericalTriangle) → filled s.spheres (own * SPHERE_WIDTH) ≡ false → cross_taken A s.spheres own t ≡ cross A t.b t.c
        unfolding cross_taken
        empty_crossed t e = rw e

        empty_here : own ≡ slot → filled s.spheres (slot * SPHERE_WIDTH) ≡ false → filled s.spheres (own * SPHERE_WIDTH) ≡ false
        empty_here e empty = ap (λ (k : ℕ). filled s.spheres (k * SPHERE_WIDTH)) e ∙ empty

        sphere_still : taken_on left ≡ taken_on s
        unfolding sphere_written
        sphere_still =
            let below = sphere_below u.origin u.index u.reflected on.origin on.index in
            let long = on.fits.spheres in
            let built : FaceTriangle → Given SphericalTriangle = sphere_built A s.frame (origin_at table o) in
            sphere_as left own (source_slot i r) o table
            ∙ ap (λ (f : FaceTriangle). taken_of SPHERE_WIDTH left.spheres own sphere_read (built f)) (same_face (source_slot i r))
            ∙ still_taken SPHERE_WIDTH s.spheres slot (sphere_run u.triangle u.bxc) refl (omega (arith, below, long)) own sphere_read _
            (λ e empty. sym (same_slot e) ∙ empty_built (empty_here e empty))
            ∙ sym (sphere_as s own (source_slot i r) o table)

        -- b × c of the triangle that is taken
        cross_still : (t : SphericalTriangle) → taken_on s ≡ answered t → cross_taken A left.spheres own t ≡ cross_taken A s.spheres own t
        unfolding sphere_written
        cross_still t taken =
            let below = sphere_below u.origin u.index u.reflected on.origin on.index in
            let long = on.fits.spheres in
            cross_as left.spheres own t
            ∙ still_taken SPHERE_WIDTH s.spheres slot (sphere_run u.triangle u.bxc) refl (omega (arith, below, long)) own cross_read _
            (λ e empty.
            let same : u.triangle ≡ t = answered_same (sym (same_slot e) ∙ taken) in
            sym on.crossed ∙ ap (λ (k : ℕ). cross_taken A s.spheres k u.triangle) (sym e)
            ∙ empty_crossed u.triangle (empty_here e empty) ∙ ap (λ (t : SphericalTriangle). cross A t.b t.c) same)
            ∙ sym (cross_as s.spheres own t)

      used_still : (o : ℕ) (polar : Polar) → o < 12 → used_for A (origin_at table o) left o polar ≡ used_for A (origin_at table o) s o polar
      unfolding used_for
      used_still o polar known =
          ap (λ (g : Given SphericalTriangle). bind g (used left.spheres)) (sphere_still o i r known small)
          ∙ with_cross (sphere_taken A s (origin_at table o) (sphere_slot o i r) (source_slot i r)) refl
        where
          i : ℕ
          i = triangle_index A polar.gamma

          small : i < 10
          small = index_below_10 A polar.gamma

          r : Bool
          r = should_reflect A polar

          -- what is used, on a set with these spheres
          used : List Float → SphericalTriangle → Given Used
          used spheres t = answered (record { origin = o; index = i; reflected = r; triangle = t; bxc = cross_taken A spheres (sphere_slot o i r) t })

          with_cross : (d : Given SphericalTriangle) → sphere_taken A s (origin_at table o) (sphere_slot o i r) (source_slot i r) ≡ d
              → bind d (used left.spheres) ≡ bind d (used s.spheres)
          with_cross (refused n) e = refl
          with_cross (answered t) e =
              ap (λ (c : Cartesian). answered (record { origin = o; index = i; reflected = r; triangle = t; bxc = c }))
              (cross_still o i r known small t e)

      face_for_still : (v : Used) → face_for A left v ≡ face_for A s v
      unfolding face_for
      face_for_still v = same_face (face_slot v.index v.reflected)

      forward_still : (p : Spherical) (o : ℕ) → o < 12 → forward_core A (origin_at table o) left p o ≡ forward_core A (origin_at table o) s p o
      unfolding forward_core
      forward_still p o known =
          let v = to_cartesian A p in
          let e = used_still o (polar_about A (origin_at table o) v) known in
          λ j.
          bind (e j) λ w.
          answered (record { answer = forward A (frame_constants A s.frame) v w.triangle w.bxc (face_for_still w j); used = w })

      place_still : (q : LonLat) → place_given A table left q ≡ place_given A table s q
      place_still q =
          let p = from_lon_lat A q in
          let o = nearest_origin A table p in
          let core = forward_still p o (nearest_is A table p).origin in
          place_is A table left q p o refl refl
          ∙ ap₂ (λ (check : Given (Unit {0})) (c : Given (Work Face)).
          and_then (and_then (and_then check (check_table A table)) (check_lon_lat q)) (finish c (finite_place o)))
          same_check core
          ∙ sym (place_is A table s q p o refl refl)

    -- ---- one position after another

    pub unmoved : (s : Set) (p q : LonLat) → place_given A table (place_on A table s p).set q ≡ place_given A table s q
    unmoved s p q = by_answer (place_given A table s p) refl
      where
        by_answer : (g : Given (Work Place)) → place_given A table s p ≡ g → place_given A table (set_used A s (used_of g)) q ≡ place_given A table s q
        by_answer (refused n) e = refl
        by_answer (answered w) e = place_still s w.used (place_used A table s p w e) q

    -- ---- a list

    -- each position by itself, on the set s
    abbrev pub each : Set → List LonLat → List PlaceResult
    each s [] = []
    each s (p ∷ ps) = result_of (place_on A table s p).answer ∷ each s ps

    each_still : (ps : List LonLat) (s t : Set) → ((q : LonLat) → place_given A table t q ≡ place_given A table s q) → each t ps ≡ each s ps
    each_still [] s t same = refl
    each_still (p ∷ ps) s t same =
        ap₂ (λ (r : PlaceResult) (rs : List PlaceResult). r ∷ rs) (ap (λ (g : Given (Work Place)). result_of (answer_of g)) (same p)) (each_still ps s t same)

    -- the results of placing in turn are those of each position by itself
    pub in_turn_each : (s : Set) (ps : List LonLat) → (placed_in_turn A table s ps).results ≡ each s ps
    unfolding placed_one
    in_turn_each s [] = refl
    in_turn_each s (p ∷ ps) =
        let next = (place_on A table s p).set in
        ap (λ (rs : List PlaceResult). result_of (place_on A table s p).answer ∷ rs) (in_turn_each next ps ∙ each_still ps s next (unmoved s p))
