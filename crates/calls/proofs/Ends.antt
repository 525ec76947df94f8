-- Each call's definition by what the functions share: inverse's and unplace's by their tests and their core, and place's by forward's
-- answer. Assumes nothing.
use mathlib.Core.Path.{◌≡◌, refl, sym, ◌∙◌}
use mathlib.Core.List.{List}
use Prim.Native.Nat.{ℕ, ◌<◌}
use lib.Ieee.{Float}
use Rattle.answer.specs.Given.{Given, answered, refused, passed, and_then, bind}
use Rattle.answer.proofs.Given.{then_answered}
use Rattle.arithmetic.specs.Arith.{ieee}
use Rattle.coordinates.specs.CoordinateTransforms.{from_lon_lat, to_lon_lat}
use Rattle.coordinates.specs.Conversions.{check_lon_lat, check_face, finite_spherical, finite_lon_lat, finite_face}
use Rattle.coordinates.specs.declared.coords.Face.{Face}
use Rattle.coordinates.specs.declared.lonlat.LonLat.{LonLat}
use Rattle.coordinates.specs.declared.spherical.Spherical.{Spherical}
use Rattle.origin.specs.Origins.{origin_at}
use Rattle.nearest.specs.Nearest.{nearest_origin}
use Rattle.set.specs.Set.{Set}
use Rattle.set.specs.Checks.{check_origin, check_with}
use Rattle.set.proofs.Lengths.{origin_passed}
use Rattle.stores.specs.declared.used.Used.{Used}
use Rattle.dodecahedron.specs.Calls.{inverse_given, place_given, unplace_given}
use Rattle.dodecahedron.specs.Place.{finite_place}
use Rattle.dodecahedron.specs.Projection.{forward_core, inverse_core}
use Rattle.dodecahedron.specs.Work.{finish}
use Rattle.dodecahedron.specs.declared.place.Place.{Place}
use Rattle.dodecahedron.specs.declared.work.Work.{Work}
use Rattle.dodecahedron.proofs.Ended.{tests_on, inverse_is, place_is, unplace_is}
use Rattle.dodecahedron.proofs.Steps.{finish_then}

-- place's answer is forward's, with the origin
abbrev on : ℕ → Face → Given Place
on o f = answered (record { origin = o; face = f })

abbrev worked : {X : Type 0} → Used → X → Given (Work X)
worked u x = answered (record { answer = x; used = u })

place_ends : (o : ℕ) (core : Given (Work Face)) → finish (finish core finite_face) (on o) ≡ finish core (finite_place o)
unfolding finish finite_place
place_ends o (refused n) = refl
place_ends o (answered w) = by (finite_face w.answer)
  where
    by : (g : Given Face) → bind (bind g (worked w.used)) (λ v. bind (on o v.answer) (worked v.used)) ≡ bind (bind g (on o)) (worked w.used)
    by (answered f) = refl
    by (refused n) = refl

module _ (table : List Float) (s : Set) (o : ℕ) where
  pub tests_passed : tests_on ieee table s o ≡ passed → (check_with ieee table s ≡ passed) × (o < 12)
  tests_passed e =
      let both = then_answered (check_with ieee table s) (check_origin o) tt e in
      (both.0, origin_passed o both.1)

  -- a position that passed place's tests, on the nearest origin
  pub place_passed : (l : LonLat) (p : Spherical) → p ≡ from_lon_lat ieee l → o ≡ nearest_origin ieee table p → check_with ieee table s ≡ passed
      → check_lon_lat l ≡ passed
      → finish (finish (forward_core ieee (origin_at table o) s p o) finite_face) (on o) ≡ place_given ieee table s l
  place_passed l p ep eo tests own = place_ends o _ ∙ sym (place_is ieee table s l p o ep eo ∙ rw (tests, own))

  module _ (f : Face) where
    abbrev tested : Given (Work Spherical)
    tested = and_then (and_then (tests_on ieee table s o) (check_face f)) (inverse_core ieee (origin_at table o) s f o)

    pub inverse_ends : finish tested finite_spherical ≡ inverse_given ieee table s f o
    inverse_ends = finish_then finite_spherical _ _ ∙ sym (inverse_is ieee table s f o)

    pub unplace_ends : finish tested (λ p. finite_lon_lat (to_lon_lat ieee p)) ≡ unplace_given ieee table s f o
    unplace_ends = finish_then _ _ _ ∙ sym (unplace_is ieee table s f o)
