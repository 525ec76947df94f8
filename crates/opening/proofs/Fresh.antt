-- The newly opened set of the built-in table: it fits, none of its slots is filled, and every sphere triangle is built
-- from its frame. So forward, inverse, place and unplace are refused there only for their own numbers and for their
-- answers. Assumes nothing.
use mathlib.Core.Path.{◌≡◌, refl, ap, ◌∙◌}
use mathlib.Core.Bool.{true, false}
use mathlib.Core.List.{List}
use Prim.Native.Nat.{ℕ, zero, suc, ◌*◌, ◌<◌}
use lib.ListN.{length, replicate, length-replicate}
use lib.Ieee.{eq}
use Rattle.answer.specs.Given.{passed}
use Rattle.arithmetic.specs.Arith.{ieee}
use Rattle.arithmetic.specs.Numbers.{0·0}
use Rattle.coordinates.specs.CoordinateTransforms.{to_polar, from_lon_lat, to_lon_lat}
use Rattle.coordinates.specs.declared.coords.Face.{Face}
use Rattle.coordinates.specs.declared.lonlat.LonLat.{LonLat}
use Rattle.coordinates.specs.declared.polar.Polar.{Polar}
use Rattle.coordinates.specs.declared.spherical.Spherical.{Spherical}
use Rattle.origin.specs.Origins.{ORIGINS, origin_at}
use Rattle.nearest.specs.Nearest.{nearest_origin}
use Rattle.origin.proofs.BuiltInPasses.{built_in_passes}
use Rattle.nearest.proofs.LowestNearest.{nearest_is}
use Rattle.tiling.specs.Index.{triangle_index, should_reflect}
use Rattle.tiling.specs.FaceTriangles.{face_triangle}
use Rattle.tiling.proofs.Modulo.{index_below_10}
use Rattle.crs.specs.Frame.{frame_rows}
use Rattle.set.specs.Sizes.{FRAME, FACE_STORE, FACE_WIDTH, SPHERE_STORE, SPHERE_WIDTH}
use Rattle.set.specs.Set.{Set, check_set}
use Rattle.set.specs.Open.{new_set}
use Rattle.set.proofs.Lengths.{Fits, set_passes, origin_passed}
use Rattle.stores.specs.Slots.{filled, source_slot, sphere_slot}
use Rattle.stores.specs.Triangles.{face_taken, sphere_taken, sphere_built, cross_taken}
use Rattle.stores.specs.Taken.{used_for}
use Rattle.dodecahedron.specs.Projection.{forward_core, inverse_core}
use Rattle.dodecahedron.specs.Calls.{forward_given, inverse_given, place_given, unplace_given}
use Rattle.frame_data.specs.Rows.{ROWS}
use Rattle.frame_data.specs.Claims.{Answers}
use Rattle.frame_data.proofs.Frame.{frame_is}
use Rattle.frame_data.proofs.Triangles.{all_built}
use Rattle.opening.specs.Refusals.{among, Only, FORWARD_REFUSALS, INVERSE_REFUSALS, PLACE_REFUSALS, RefusalsLeft}
use Rattle.opening.proofs.Refusals.{only_passed, only_answered, only_answers, only_then, only_bind, only_finish, only_answer, origin_only, spherical_only, lon_lat_only, face_only, finite_face_only, finite_spherical_only, finite_lon_lat_only, finite_place_only, inverse_only}

abbrev pub fresh : Set
fresh = new_set ieee ORIGINS

-- ---- its lengths

pub rows_long : length (frame_rows ieee ORIGINS) ≡ FRAME
unfolding ROWS
rows_long = ap length frame_is

pub fresh_fits : Fits fresh
fresh_fits =
    record {
      frame = rows_long;
      faces = length-replicate FACE_STORE 0·0;
      spheres = length-replicate SPHERE_STORE 0·0;
    }

fresh_passes : check_set fresh ≡ passed
fresh_passes = set_passes fresh fresh_fits

-- ---- its triangles

none_filled : (n i : ℕ) → filled (replicate n 0·0) i ≡ false
unfolding filled eq
none_filled zero i = refl
none_filled (suc n) zero = refl
none_filled (suc n) (suc i) = none_filled n i

-- a call builds the triangle of any slot
builds : (o k j : ℕ)
    → sphere_taken ieee fresh (origin_at ORIGINS o) k j
    ≡ sphere_built ieee (frame_rows ieee ORIGINS) (origin_at ORIGINS o) (face_triangle ieee j)
unfolding sphere_taken face_taken
builds o k j = rw (none_filled SPHERE_STORE (k * SPHERE_WIDTH), none_filled FACE_STORE (j * FACE_WIDTH))

used_answers : (o : ℕ) (polar : Polar) → o < 12 → Answers (used_for ieee (origin_at ORIGINS o) fresh o polar)
unfolding used_for
used_answers o polar h =
    let i = triangle_index ieee polar.gamma in
    let r = should_reflect ieee polar in
    let t = all_built o i r h (index_below_10 ieee polar.gamma) in
    let k = sphere_slot o i r in
    let taken = builds o k (source_slot i r) ∙ t.1 in
    (record { origin = o; index = i; reflected = r; triangle = t.0; bxc = cross_taken ieee fresh.spheres k t.0 }, rw taken)

-- ---- what forward and inverse work out

module _ (ns : List ℕ) (o : ℕ) (h : o < 12) where
  forward_core_only : (p : Spherical) → Only ns (forward_core ieee (origin_at ORIGINS o) fresh p o)
  unfolding forward_core
  forward_core_only p = only_bind ns _ _ (only_answers ns _ (used_answers o _ h)) (λ u. only_answered ns _)

  inverse_core_only : among 19 ns ≡ true → (f : Face) → Only ns (inverse_core ieee (origin_at ORIGINS o) fresh f o)
  unfolding inverse_core
  inverse_core_only outside f =
      only_bind ns _ _ (only_answers ns _ (used_answers o (to_polar ieee f) h))
      (λ u. only_bind ns _ _ (inverse_only ns ieee outside _ f _ _) (λ p. only_answered ns _))

-- ---- the calls

forward_left : (p : Spherical) (o : ℕ) → Only FORWARD_REFUSALS (forward_given ieee ORIGINS fresh p o)
unfolding forward_given among
forward_left p o =
    let ns = FORWARD_REFUSALS in
    only_then ns _ _ (only_passed ns fresh_passes) λ set.
    only_then ns _ _ (only_passed ns built_in_passes) λ table.
    only_then ns _ _ (origin_only ns refl o) λ origin.
    only_then ns _ _ (spherical_only ns refl refl p) λ position.
    only_finish ns _ _ (forward_core_only ns o (origin_passed o origin) p) (finite_face_only ns refl)

inverse_left : (f : Face) (o : ℕ) → Only INVERSE_REFUSALS (inverse_given ieee ORIGINS fresh f o)
unfolding inverse_given among
inverse_left f o =
    let ns = INVERSE_REFUSALS in
    only_then ns _ _ (only_passed ns fresh_passes) λ set.
    only_then ns _ _ (only_passed ns built_in_passes) λ table.
    only_then ns _ _ (origin_only ns refl o) λ origin.
    only_then ns _ _ (face_only ns refl refl f) λ point.
    only_finish ns _ _ (inverse_core_only ns o (origin_passed o origin) refl f) (finite_spherical_only ns refl)

-- its origin is the nearest one, which is one of the twelve
place_left : (l : LonLat) → Only PLACE_REFUSALS (place_given ieee ORIGINS fresh l)
unfolding place_given among
place_left l =
    let ns = PLACE_REFUSALS in
    let p = from_lon_lat ieee l in
    let o = nearest_origin ieee ORIGINS p in
    only_then ns _ _ (only_passed ns fresh_passes) λ set.
    only_then ns _ _ (only_passed ns built_in_passes) λ table.
    only_then ns _ _ (lon_lat_only ns refl refl l) λ position.
    only_finish ns _ _ (forward_core_only ns o (nearest_is ieee ORIGINS p).origin p) (finite_place_only ns refl o)

unplace_left : (f : Face) (o : ℕ) → Only INVERSE_REFUSALS (unplace_given ieee ORIGINS fresh f o)
unfolding unplace_given among
unplace_left f o =
    let ns = INVERSE_REFUSALS in
    only_then ns _ _ (only_passed ns fresh_passes) λ set.
    only_then ns _ _ (only_passed ns built_in_passes) λ table.
    only_then ns _ _ (origin_only ns refl o) λ origin.
    only_then ns _ _ (face_only ns refl refl f) λ point.
    only_finish ns _ _ (inverse_core_only ns o (origin_passed o origin) refl f) λ s.
    finite_lon_lat_only ns refl (to_lon_lat ieee s)

pub fresh_left : RefusalsLeft fresh
fresh_left =
    record {
      forward = λ p o. only_answer _ (forward_given ieee ORIGINS fresh p o) (forward_left p o);
      inverse = λ f o. only_answer _ (inverse_given ieee ORIGINS fresh f o) (inverse_left f o);
      place = λ l. only_answer _ (place_given ieee ORIGINS fresh l) (place_left l);
      unplace = λ f o. only_answer _ (unplace_given ieee ORIGINS fresh f o) (unplace_left f o);
    }
