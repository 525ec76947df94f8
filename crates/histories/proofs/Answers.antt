-- Two sets that calls have left from ones newly opened with the same table give the same answers, since the calls take the same
-- triangles on them. Assumes nothing.
use mathlib.Core.Path.{◌≡◌, refl, sym, ap, ◌∙◌}
use mathlib.Core.Bool.{Bool, not}
use mathlib.Core.List.{List}
use Prim.Native.Nat.{ℕ, ◌<◌}
use lib.Dec.{eqb}
use lib.ListN.{length}
use lib.Ieee.{Float}
use Rattle.answer.specs.Given.{Given, answered, refused, passed, refuse_if, and_then, bind}
use Rattle.answer.proofs.Given.{then_answered}
use Rattle.arithmetic.specs.Arith.{ieee}
use Rattle.coordinates.specs.CoordinateTransforms.{to_polar, to_spherical, to_cartesian, from_lon_lat, to_lon_lat}
use Rattle.coordinates.specs.Conversions.{check_lon_lat, check_spherical, check_face, finite_spherical, finite_lon_lat, finite_face}
use Rattle.coordinates.specs.declared.coords.Cartesian.{Cartesian}
use Rattle.coordinates.specs.declared.coords.Face.{Face}
use Rattle.coordinates.specs.declared.coords.SphericalTriangle.{SphericalTriangle}
use Rattle.coordinates.specs.declared.lonlat.LonLat.{LonLat}
use Rattle.coordinates.specs.declared.polar.Polar.{Polar}
use Rattle.coordinates.specs.declared.spherical.Spherical.{Spherical}
use Rattle.origin.specs.Origins.{origin_at}
use Rattle.origin.specs.Table.{check_table}
use Rattle.nearest.specs.Nearest.{nearest_origin}
use Rattle.nearest.proofs.LowestNearest.{nearest_is}
use Rattle.tiling.specs.Index.{triangle_index, should_reflect}
use Rattle.tiling.proofs.Modulo.{index_below_10}
use Rattle.crs.specs.Frame.{frame_rows}
use Rattle.equal_area.specs.EqualArea.{forward, inverse}
use Rattle.set.specs.Sizes.{FRAME, FACE_STORE, SPHERE_SLOTS, SPHERE_STORE}
use Rattle.set.specs.Set.{Set, check_set}
use Rattle.set.specs.Checks.{check_origin, check_with}
use Rattle.set.proofs.Lengths.{origin_passed}
use Rattle.stores.specs.Slots.{face_slot, sphere_slot}
use Rattle.stores.proofs.Within.{sphere_below}
use Rattle.stores.specs.declared.used.Used.{Used}
use Rattle.stores.specs.Triangles.{cross_taken}
use Rattle.stores.specs.Taken.{face_for, used_for}
use Rattle.dodecahedron.specs.Place.{finite_place}
use Rattle.dodecahedron.specs.Work.{finish}
use Rattle.dodecahedron.specs.declared.work.Work.{Work}
use Rattle.dodecahedron.specs.Projection.{frame_constants, polar_about, forward_core, inverse_core}
use Rattle.dodecahedron.specs.Calls.{forward_given, inverse_given, place_given, unplace_given}
use Rattle.dodecahedron.proofs.Ended.{tests_on, forward_is, inverse_is, place_is, unplace_is}
use Rattle.histories.proofs.Told.{Since}
use Rattle.histories.specs.Defined.{sphere_defined}
use Rattle.histories.proofs.Taken.{Good, face_taken_lem, sphere_taken_lem, cross_taken_lem}

-- what follows a check, if that gives the same and what follows does wherever it passes
then_same : {X : Type 0} (check check' : Given (Unit {0})) (a b : Given X) → check ≡ check' → (check ≡ passed → a ≡ b) → and_then check a ≡ and_then check' b
then_same (answered u) check' a b e same = same refl ∙ ap (λ (g : Given (Unit {0})). and_then g b) e
then_same (refused n) check' a b e same = ap (λ (g : Given (Unit {0})). and_then g b) e

-- ---- the cores on two sets
module _ (table : List Float) (w v : Since) (s n : Set) (good : Good table w s) (also : Good table v n) where
  same_frame : s.frame ≡ n.frame
  same_frame = good.frame ∙ good.rows ∙ sym (also.frame ∙ also.rows)

  pub same_checks : check_set s ≡ check_set n
  unfolding check_set
  same_checks =
      let faces = good.face_long ∙ sym also.face_long in
      let spheres = good.sphere_long ∙ sym also.sphere_long in
      λ j.
      refuse_if (not (eqb (length (same_frame j)) FRAME)) 1
      (refuse_if (not (eqb (faces j) FACE_STORE)) 2
      (refuse_if (not (eqb (spheres j) SPHERE_STORE)) 3
      passed))

  same_faces : (u : Used) → face_for ieee s u ≡ face_for ieee n u
  unfolding face_for
  same_faces u =
      let k = face_slot u.index u.reflected in
      face_taken_lem table w s good k ∙ sym (face_taken_lem table v n also k)

  same_used : (o : ℕ) (polar : Polar) → o < 12
      → used_for ieee (origin_at table o) s o polar ≡ used_for ieee (origin_at table o) n o polar
  unfolding used_for
  same_used o polar h =
      rw (sphere_taken_lem table w s good o i r h small, sphere_taken_lem table v n also o i r h small, good.rows, also.rows)
      (with_cross (sphere_defined table (frame_rows ieee table) k) refl)
    where
      i : ℕ
      i = triangle_index ieee polar.gamma

      small : i < 10
      small = index_below_10 ieee polar.gamma

      r : Bool
      r = should_reflect ieee polar

      k : ℕ
      k = sphere_slot o i r

      below : k < SPHERE_SLOTS
      below = sphere_below o i r h small

      -- what is used, on a set with these spheres
      used : List Float → SphericalTriangle → Given Used
      used spheres t = answered (record { origin = o; index = i; reflected = r; triangle = t; bxc = cross_taken ieee spheres k t })

      with_cross : (d : Given SphericalTriangle) → sphere_defined table (frame_rows ieee table) k ≡ d → bind d (used s.spheres) ≡ bind d (used n.spheres)
      with_cross (refused m) e = refl
      with_cross (answered t) e =
          let one = cross_taken_lem table w s good k t below (rw good.rows e) in
          let other = cross_taken_lem table v n also k t below (rw also.rows e) in
          ap (λ (c : Cartesian). answered (record { origin = o; index = i; reflected = r; triangle = t; bxc = c })) (one ∙ sym other)

  same_forward : (p : Spherical) (o : ℕ) → o < 12 → forward_core ieee (origin_at table o) s p o ≡ forward_core ieee (origin_at table o) n p o
  unfolding forward_core
  same_forward p o h =
      let v = to_cartesian ieee p in
      let e = same_used o (polar_about ieee (origin_at table o) v) h in
      λ j.
      bind (e j) λ u.
      answered (record { answer = forward ieee (frame_constants ieee (same_frame j)) v u.triangle u.bxc (same_faces u j); used = u })

  same_inverse : (f : Face) (o : ℕ) → o < 12 → inverse_core ieee (origin_at table o) s f o ≡ inverse_core ieee (origin_at table o) n f o
  unfolding inverse_core
  same_inverse f o h =
      let e = same_used o (to_polar ieee f) h in
      λ j.
      bind (e j) λ u.
      bind (inverse ieee (frame_constants ieee (same_frame j)) f (same_faces u j) u.triangle) λ p.
      answered (record { answer = to_spherical ieee p; used = u })

  -- ---- the calls

  -- a call on an origin: where its checks pass, the origin is one of the twelve
  on_origin : {X Y : Type 0} (o : ℕ) (own : Given (Unit {0})) (core core' : Given (Work X)) (f : X → Given Y) → (o < 12 → core ≡ core')
      → and_then (and_then (tests_on ieee table s o) own) (finish core f) ≡ and_then (and_then (tests_on ieee table n o) own) (finish core' f)
  on_origin o own core core' f e =
      let checks = ap (λ (g : Given (Unit {0})). and_then (and_then (and_then g (check_table ieee table)) (check_origin o)) own) same_checks in
      then_same _ _ _ _ checks λ p.
      let tests = then_answered (tests_on ieee table s o) own tt p in
      let passes = then_answered (check_with ieee table s) (check_origin o) tt tests.0 in
      ap (λ (g : Given (Work _)). finish g f) (e (origin_passed o passes.1))

  pub forward_same : (p : Spherical) (o : ℕ) → forward_given ieee table s p o ≡ forward_given ieee table n p o
  forward_same p o =
      forward_is ieee table s p o
      ∙ on_origin o (check_spherical p) _ _ finite_face (same_forward p o)
      ∙ sym (forward_is ieee table n p o)

  pub inverse_same : (f : Face) (o : ℕ) → inverse_given ieee table s f o ≡ inverse_given ieee table n f o
  inverse_same f o =
      inverse_is ieee table s f o
      ∙ on_origin o (check_face f) _ _ finite_spherical (same_inverse f o)
      ∙ sym (inverse_is ieee table n f o)

  pub unplace_same : (f : Face) (o : ℕ) → unplace_given ieee table s f o ≡ unplace_given ieee table n f o
  unplace_same f o =
      unplace_is ieee table s f o
      ∙ on_origin o (check_face f) _ _ (λ q. finite_lon_lat (to_lon_lat ieee q)) (same_inverse f o)
      ∙ sym (unplace_is ieee table n f o)

  -- place's origin is the nearest one
  pub place_same : (p : LonLat) → place_given ieee table s p ≡ place_given ieee table n p
  place_same p =
      let q = from_lon_lat ieee p in
      let o = nearest_origin ieee table q in
      let checks = ap (λ (g : Given (Unit {0})). and_then (and_then g (check_table ieee table)) (check_lon_lat p)) same_checks in
      let core = same_forward q o (nearest_is ieee table q).origin in
      place_is ieee table s p q o refl refl
      ∙ then_same _ _ _ _ checks (λ e. ap (λ (g : Given (Work Face)). finish g (finite_place o)) core)
      ∙ sym (place_is ieee table n p q o refl refl)
