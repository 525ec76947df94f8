-- Document 01, "Calls and their numbers" and "Triangles and calls": forward, inverse, place and unplace: what each gives, its
-- tests in the table's order, and what it comes to, for all contents of the buffers, over a table of origins
-- (projections/dodecahedron.rs). Paper 10: "Open then takes the table, and so do the calls; each tests it by 21 and 22 right after 3."
-- Definitions only.
use Rattle.std.specs.Prelude.{ℕ, List, Float}
use Rattle.answer.specs.Given.{Given, and_then}
use Rattle.arithmetic.specs.Arith.{Arith}
use Rattle.coordinates.specs.CoordinateTransforms.{from_lon_lat, to_lon_lat}
use Rattle.coordinates.specs.Conversions.{check_lon_lat, check_spherical, check_face, finite_spherical, finite_lon_lat, finite_face}
use Rattle.coordinates.specs.declared.coords.Face.{Face}
use Rattle.coordinates.specs.declared.lonlat.LonLat.{LonLat}
use Rattle.coordinates.specs.declared.spherical.Spherical.{Spherical}
use Rattle.origin.specs.Origins.{origin_at}
use Rattle.origin.specs.Table.{check_table}
use Rattle.nearest.specs.Nearest.{nearest_origin}
use Rattle.set.specs.Set.{Set, check_set}
use Rattle.set.specs.Checks.{check_origin}
use Rattle.set.specs.Outcome.{Outcome}
use Rattle.dodecahedron.specs.Place.{finite_place}
use Rattle.dodecahedron.specs.Work.{outcome, finish}
use Rattle.dodecahedron.specs.declared.work.Work.{Work}
use Rattle.dodecahedron.specs.Projection.{forward_core, inverse_core}
use Rattle.dodecahedron.specs.declared.place.Place.{Place}

module _ (A : Arith) (table : List Float) (s : Set) where
  -- 1, 2, 3; 21, 22; 4; theta, phi for 5, 6; 8; 9
  unfoldable pub forward_given : Spherical → ℕ → Given (Work Face)
  forward_given p o =
      and_then (check_set s)
      (and_then (check_table A table)
      (and_then (check_origin o)
      (and_then (check_spherical p)
      (finish (forward_core A (origin_at table o) s p o)
      finite_face))))

  -- 1, 2, 3; 21, 22; 4; x, y for 5, 6; 8, 19; 9
  unfoldable pub inverse_given : Face → ℕ → Given (Work Spherical)
  inverse_given f o =
      and_then (check_set s)
      (and_then (check_table A table)
      (and_then (check_origin o)
      (and_then (check_face f)
      (finish (inverse_core A (origin_at table o) s f o)
      finite_spherical))))

  -- "Place is from_lon_lat, find_nearest_origin, forward." 1, 2, 3; 21, 22; longitude, latitude for 5, 6; 8; 9
  unfoldable pub place_given : LonLat → Given (Work Place)
  place_given l =
      let p = from_lon_lat A l in
      let o = nearest_origin A table p in
      and_then (check_set s)
      (and_then (check_table A table)
      (and_then (check_lon_lat l)
      (finish (forward_core A (origin_at table o) s p o)
      (finite_place o))))

  -- "unplace is inverse, to_lon_lat." 1, 2, 3; 21, 22; 4; x, y for 5, 6; 8, 19; 9
  unfoldable pub unplace_given : Face → ℕ → Given (Work LonLat)
  unplace_given f o =
      and_then (check_set s)
      (and_then (check_table A table)
      (and_then (check_origin o)
      (and_then (check_face f)
      (finish (inverse_core A (origin_at table o) s f o) λ p.
      finite_lon_lat (to_lon_lat A p)))))

  -- ---- what each call comes to: its answer, and the set that it leaves

  abbrev pub forward_on : Spherical → ℕ → Outcome Face
  forward_on p o = outcome A s (forward_given p o)

  abbrev pub inverse_on : Face → ℕ → Outcome Spherical
  inverse_on f o = outcome A s (inverse_given f o)

  abbrev pub place_on : LonLat → Outcome Place
  place_on l = outcome A s (place_given l)

  abbrev pub unplace_on : Face → ℕ → Outcome LonLat
  unplace_on f o = outcome A s (unplace_given f o)
