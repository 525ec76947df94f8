-- No refusal of place has the number 0, which says in a result that place answered. Assumes nothing.
use mathlib.Core.Path.{◌≡◌, refl}
use mathlib.Core.Bool.{Bool, true, false, not, cond, ◌&&◌}
use mathlib.Core.List.{List, [], ◌∷◌}
use Prim.Native.Nat.{ℕ, ◌*◌}
use lib.Dec.{eqb}
use lib.Ieee.{Float, le, neg}
use lib.ListN.{length}
use Rattle.answer.specs.Given.{Given, answered, refused, passed, refuse_if, and_then, bind}
use Rattle.answer.specs.Number.{is_finite, check_number}
use Rattle.arithmetic.specs.Arith.{Arith}
use Rattle.coordinates.specs.CoordinateTransforms.{from_lon_lat}
use Rattle.coordinates.specs.Conversions.{check_lon_lat, finite_face}
use Rattle.coordinates.specs.Vector.{cartesian}
use Rattle.coordinates.specs.declared.coords.Cartesian.{Cartesian}
use Rattle.coordinates.specs.declared.coords.Face.{Face}
use Rattle.coordinates.specs.declared.coords.FaceTriangle.{FaceTriangle}
use Rattle.coordinates.specs.declared.coords.SphericalTriangle.{SphericalTriangle}
use Rattle.coordinates.specs.declared.lonlat.LonLat.{LonLat}
use Rattle.coordinates.specs.declared.polar.Polar.{Polar}
use Rattle.coordinates.specs.declared.spherical.Spherical.{Spherical}
use Rattle.origin.specs.Origins.{origin_at}
use Rattle.origin.specs.Table.{numbers_sound, unit_rows, check_table}
use Rattle.nearest.specs.Nearest.{nearest_origin}
use Rattle.origin.specs.declared.utils.Origin.{Origin}
use Rattle.crs.specs.Frame.{near, find_vertex}
use Rattle.set.specs.Set.{Set, check_set}
use Rattle.set.specs.Sizes.{FRAME, FACE_STORE, SPHERE_WIDTH, SPHERE_STORE}
use Rattle.stores.specs.Slots.{filled}
use Rattle.stores.specs.Triangles.{face_taken, corner_vertex, sphere_built, sphere_taken}
use Rattle.stores.specs.Taken.{used_for}
use Rattle.dodecahedron.specs.Place.{finite_place}
use Rattle.dodecahedron.specs.Work.{finish}
use Rattle.dodecahedron.specs.Projection.{forward_core}
use Rattle.dodecahedron.specs.Calls.{place_given}

abbrev not_zero : {X : Type 0} → Given X → Type 0
not_zero (answered x) = Unit {0}
not_zero (refused n) = eqb n 0 ≡ false

pub record Numbered {X : Type 0} (g : Given X) : Type 0 where
  pub is : not_zero g

abbrev numbered : {X : Type 0} {g : Given X} → not_zero g → Numbered g
numbered e = record { is = e }

refuse_numbered : {X : Type 0} (b : Bool) (n : ℕ) (rest : Given X) → eqb n 0 ≡ false → Numbered rest → Numbered (refuse_if b n rest)
refuse_numbered true n rest e later = numbered e
refuse_numbered false n rest e later = later

then_numbered : {X : Type 0} (check : Given (Unit {0})) (rest : Given X) → Numbered check → Numbered rest → Numbered (and_then check rest)
then_numbered (answered u) rest e later = later
then_numbered (refused n) rest e later = numbered e.is

bind_numbered : {X Y : Type 0} (g : Given X) (f : X → Given Y) → Numbered g → ((x : X) → Numbered (f x)) → Numbered (bind g f)
bind_numbered (answered x) f e later = later x
bind_numbered (refused n) f e later = numbered e.is

-- ---- the checks

set_numbered : (s : Set) → Numbered (check_set s)
unfolding check_set
set_numbered s =
    refuse_numbered (not (eqb (length s.frame) FRAME)) 1 (refuse_if faces 2 (refuse_if spheres 3 passed)) refl
    (refuse_numbered faces 2 (refuse_if spheres 3 passed) refl
    (refuse_numbered spheres 3 passed refl
    (numbered tt)))
  where
    faces : Bool
    faces = not (eqb (length s.faces) FACE_STORE)

    spheres : Bool
    spheres = not (eqb (length s.spheres) SPHERE_STORE)

-- two numbers, one after the other
twice_numbered : (a b : Bool) (m n : ℕ) → eqb m 0 ≡ false → eqb n 0 ≡ false → Numbered (refuse_if a m (refuse_if b n passed))
twice_numbered a b m n e f = refuse_numbered a m (refuse_if b n passed) e (refuse_numbered b n passed f (numbered tt))

number_numbered : (x limit : Float) → Numbered (check_number x limit)
unfolding check_number
number_numbered x limit = twice_numbered (not (is_finite x)) (not (le (neg limit) x && le x limit)) 5 6 refl refl

position_numbered : (p : LonLat) → Numbered (check_lon_lat p)
unfolding check_lon_lat
position_numbered p = then_numbered _ _ (number_numbered _ _) (number_numbered _ _)

finite_numbered : (f : Face) → Numbered (finite_face f)
unfolding finite_face
finite_numbered f = refuse_numbered (not (is_finite f.0.x && is_finite f.0.y)) 9 (answered f) refl (numbered tt)

place_finite : (o : ℕ) (f : Face) → Numbered (finite_place o f)
unfolding finite_place
place_finite o f = bind_numbered (finite_face f) _ (finite_numbered f) (λ g. numbered tt)

module _ (A : Arith) where
  table_numbered : (table : List Float) → Numbered (check_table A table)
  unfolding check_table
  table_numbered table = twice_numbered (not (numbers_sound table)) (not (unit_rows A table)) 21 22 refl refl

  -- ---- 8

  vertex_numbered : (rows : List Float) (point : Cartesian) → Numbered (find_vertex A rows point)
  unfolding find_vertex
  vertex_numbered [] point = numbered refl
  vertex_numbered (a ∷ []) point = numbered refl
  vertex_numbered (a ∷ b ∷ []) point = numbered refl
  vertex_numbered (a ∷ b ∷ c ∷ rows) point = by (near A point (cartesian a b c)) (vertex_numbered rows point)
    where
      by : (t : Bool) → Numbered (find_vertex A rows point)
          → Numbered {X = Cartesian} (elim t [ true ↦ answered (cartesian a b c) | false ↦ find_vertex A rows point ])
      by true e = numbered tt
      by false e = e

  corner_numbered : (frame : List Float) (o : Origin) (f : Face) → Numbered (corner_vertex A frame o f)
  unfolding corner_vertex
  corner_numbered frame o f = vertex_numbered frame _

  built_numbered : (frame : List Float) (o : Origin) (t : FaceTriangle) → Numbered (sphere_built A frame o t)
  unfolding sphere_built
  built_numbered frame o t =
      bind_numbered _ _ (corner_numbered frame o t.a) λ a.
      bind_numbered _ _ (corner_numbered frame o t.b) λ b.
      bind_numbered _ _ (corner_numbered frame o t.c) λ c.
      numbered tt

  sphere_numbered : (s : Set) (o : Origin) (k j : ℕ) → Numbered (sphere_taken A s o k j)
  unfolding sphere_taken
  sphere_numbered s o k j = by (filled s.spheres (k * SPHERE_WIDTH)) _ _ (numbered tt) (built_numbered s.frame o (face_taken A s.faces j))
    where
      by : (t : Bool) (held built : Given SphericalTriangle) → Numbered held → Numbered built → Numbered (cond t held built)
      by true held built e f = e
      by false held built e f = f

  used_numbered : (s : Set) (origin : Origin) (o : ℕ) (polar : Polar) → Numbered (used_for A origin s o polar)
  unfolding used_for
  used_numbered s origin o polar = bind_numbered _ _ (sphere_numbered s origin _ _) (λ t. numbered tt)

  core_numbered : (s : Set) (origin : Origin) (p : Spherical) (o : ℕ) → Numbered (forward_core A origin s p o)
  unfolding forward_core
  core_numbered s origin p o = bind_numbered _ _ (used_numbered s origin o _) (λ u. numbered tt)

  pub place_numbered : (table : List Float) (s : Set) (p : LonLat) → Numbered (place_given A table s p)
  unfolding place_given finish
  place_numbered table s p =
      let o = nearest_origin A table (from_lon_lat A p) in
      then_numbered (check_set s) _ (set_numbered s)
      (then_numbered (check_table A table) _ (table_numbered table)
      (then_numbered (check_lon_lat p) _ (position_numbered p)
      (bind_numbered (forward_core A (origin_at table o) s (from_lon_lat A p) o) _ (core_numbered s (origin_at table o) (from_lon_lat A p) o) λ w.
      bind_numbered (finite_place o w.answer) _ (place_finite o w.answer) λ y.
      numbered tt)))
