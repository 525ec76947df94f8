-- How a call ends. Its tests in a row are its checks and then what follows, which the code tries in two steps; and where it
-- answers, the set has the slots that it used, so that they are written. Assumes nothing.
use mathlib.Core.Path.{◌≡◌, refl, sym, ap, ◌∙◌}
use mathlib.Core.List.{List}
use Prim.Native.Nat.{ℕ, ◌<◌}
use lib.Ieee.{Float}
use Rattle.answer.specs.Given.{Given, answered, refused, passed, and_then}
use Rattle.answer.proofs.Given.{then_answered, bind_answered, then_then}
use Rattle.arithmetic.specs.Arith.{Arith}
use Rattle.coordinates.specs.CoordinateTransforms.{from_lon_lat, to_lon_lat}
use Rattle.coordinates.specs.Conversions.{check_lon_lat, check_spherical, check_face, finite_spherical, finite_lon_lat, finite_face}
use Rattle.coordinates.specs.declared.coords.Face.{Face}
use Rattle.coordinates.specs.declared.lonlat.LonLat.{LonLat}
use Rattle.coordinates.specs.declared.polar.Polar.{Polar}
use Rattle.coordinates.specs.declared.spherical.Spherical.{Spherical}
use Rattle.origin.specs.Origins.{origin_at}
use Rattle.origin.specs.Table.{check_table}
use Rattle.nearest.specs.Nearest.{nearest_origin}
use Rattle.nearest.proofs.LowestNearest.{nearest_is}
use Rattle.set.specs.Set.{Set, check_set}
use Rattle.set.specs.Checks.{check_origin, check_with}
use Rattle.set.proofs.Lengths.{with_passed, origin_passed, call_passes}
use Rattle.stores.specs.Used.{used_written, written_if_there}
use Rattle.stores.specs.declared.used.Used.{Used}
use Rattle.stores.proofs.Within.{written_there}
use Rattle.stores.specs.Taken.{used_for}
use Rattle.stores.proofs.TakenWithin.{answered_same, used_within}
use Rattle.stores.proofs.Uses.{UsedOn, used_on}
use Rattle.dodecahedron.specs.Place.{finite_place}
use Rattle.dodecahedron.specs.Work.{used_of, set_used, set_used_if_there, finish}
use Rattle.dodecahedron.specs.declared.work.Work.{Work}
use Rattle.dodecahedron.specs.Projection.{forward_core, inverse_core}
use Rattle.dodecahedron.specs.Calls.{forward_given, inverse_given, place_given, unplace_given}
use Rattle.dodecahedron.specs.declared.place.Place.{Place}
use Rattle.dodecahedron.proofs.Worked.{forward_used, inverse_used}

-- ---- tests in a row

-- 1, 2, 3, 21, 22, 4
abbrev pub tests_on : Arith → List Float → Set → ℕ → Given (Unit {0})
tests_on A table s o = and_then (check_with A table s) (check_origin o)

then_thrice : {X : Type 0} (a b c : Given (Unit {0})) (rest : Given X) → and_then a (and_then b (and_then c rest)) ≡ and_then (and_then (and_then a b) c) rest
then_thrice a b c rest = then_then a b (and_then c rest) ∙ then_then (and_then a b) c rest

then_four : {X : Type 0} (a b c d : Given (Unit {0})) (rest : Given X)
    → and_then a (and_then b (and_then c (and_then d rest))) ≡ and_then (and_then (and_then (and_then a b) c) d) rest
then_four a b c d rest = then_thrice a b c (and_then d rest) ∙ then_then (and_then (and_then a b) c) d rest

-- an answer that was finished is one that was worked out, with the same slots used
pub finish_used : {X Y : Type 0} (core : Given (Work X)) (f : X → Given Y) (w : Work Y) → finish core f ≡ answered w
    → (v : Work X) × (core ≡ answered v) × (v.used ≡ w.used)
unfolding finish
finish_used {X} {Y} core f w e =
    let worked = bind_answered core _ w e in
    let ended = bind_answered (f worked.0.answer) _ w worked.2 in
    (worked.0, worked.1, ap (λ (x : Work Y). x.used) (answered_same ended.2))

module _ (A : Arith) (table : List Float) (s : Set) where
  -- the slots that a call used are written
  abbrev There : Used → Type 0
  There u = written_if_there A s u ≡ used_written A s u

  there : (o : ℕ) (polar : Polar) (u : Used) → check_with A table s ≡ passed → o < 12 → used_for A (origin_at table o) s o polar ≡ answered u → There u
  there o polar u p h e =
      let within = used_within A (origin_at table o) s o polar u h e in
      written_there s u A (call_passes s _ (with_passed A table s p).0 within.0) within.1

  -- any call on an origin that its tests let through
  ended_there : {X Y : Type 0} (o : ℕ) (own : Given (Unit {0})) (core : Given (Work X)) (f : X → Given Y) (polar : Polar)
      → ((v : Work X) → core ≡ answered v → used_for A (origin_at table o) s o polar ≡ answered v.used)
      → (w : Work Y) → and_then (and_then (tests_on A table s o) own) (finish core f) ≡ answered w → There w.used
  ended_there o own core f polar used w e =
      let tests = then_answered (and_then (tests_on A table s o) own) _ w e in
      let on = then_answered (tests_on A table s o) own tt tests.0 in
      let passes = then_answered (check_with A table s) (check_origin o) tt on.0 in
      let worked = finish_used core f w tests.1 in
      there o polar w.used passes.0 (origin_passed o passes.1) (used worked.0 worked.1 ∙ ap answered worked.2)

  -- ---- each call as its checks and what follows, and the slots that it used

  module _ (p : Spherical) (o : ℕ) where
    pub forward_is : forward_given A table s p o
        ≡ and_then (and_then (tests_on A table s o) (check_spherical p)) (finish (forward_core A (origin_at table o) s p o) finite_face)
    unfolding forward_given
    forward_is = then_four (check_set s) (check_table A table) (check_origin o) (check_spherical p) _

    pub forward_there : (w : Work Face) → forward_given A table s p o ≡ answered w → There w.used
    forward_there w e = ended_there o (check_spherical p) _ finite_face _ (forward_used A (origin_at table o) s o p) w (sym forward_is ∙ e)

  module _ (f : Face) (o : ℕ) where
    -- inverse and unplace differ in their final answer alone
    abbrev core : Given (Work Spherical)
    core = inverse_core A (origin_at table o) s f o

    abbrev ends : Spherical → Given LonLat
    ends p = finite_lon_lat (to_lon_lat A p)

    pub inverse_is : inverse_given A table s f o ≡ and_then (and_then (tests_on A table s o) (check_face f)) (finish core finite_spherical)
    unfolding inverse_given
    inverse_is = then_four (check_set s) (check_table A table) (check_origin o) (check_face f) _

    pub unplace_is : unplace_given A table s f o ≡ and_then (and_then (tests_on A table s o) (check_face f)) (finish core ends)
    unfolding unplace_given
    unplace_is = then_four (check_set s) (check_table A table) (check_origin o) (check_face f) _

    pub inverse_there : (w : Work Spherical) → inverse_given A table s f o ≡ answered w → There w.used
    inverse_there w e = ended_there o (check_face f) _ finite_spherical _ (inverse_used A (origin_at table o) s o f) w (sym inverse_is ∙ e)

    pub unplace_there : (w : Work LonLat) → unplace_given A table s f o ≡ answered w → There w.used
    unplace_there w e = ended_there o (check_face f) _ ends _ (inverse_used A (origin_at table o) s o f) w (sym unplace_is ∙ e)

  module _ (l : LonLat) where
    -- by the position and the origin that the code has worked out
    pub place_is : (p : Spherical) (o : ℕ) → p ≡ from_lon_lat A l → o ≡ nearest_origin A table p
        → place_given A table s l ≡ and_then (and_then (check_with A table s) (check_lon_lat l))
        (finish (forward_core A (origin_at table o) s p o) (finite_place o))
    unfolding place_given
    place_is p o ep eo = rw (eo, ep) (then_thrice (check_set s) (check_table A table) (check_lon_lat l) _)

    pub place_refused : (n : ℕ) → and_then (check_with A table s) (check_lon_lat l) ≡ refused n → place_given A table s l ≡ refused n
    place_refused n e = place_is (from_lon_lat A l) _ refl refl ∙ rw e

    -- where it answers: the set passes 1, 2, 3, 21, 22, and these are the slots of the nearest origin
    place_passed : (w : Work Place) → place_given A table s l ≡ answered w → let o = nearest_origin A table (from_lon_lat A l) in
        (polar : Polar) × (check_with A table s ≡ passed) × (used_for A (origin_at table o) s o polar ≡ answered w.used)
    place_passed w e =
        let p = from_lon_lat A l in
        let o = nearest_origin A table p in
        let tests = then_answered _ _ w (sym (place_is p o refl refl) ∙ e) in
        let passes = then_answered (check_with A table s) (check_lon_lat l) tt tests.0 in
        let worked = finish_used (forward_core A (origin_at table o) s p o) (finite_place o) w tests.1 in
        (_, passes.0, forward_used A (origin_at table o) s o p worked.0 worked.1 ∙ ap answered worked.2)

    pub place_there : (w : Work Place) → place_given A table s l ≡ answered w → There w.used
    place_there w e =
        let known = place_passed w e in
        there _ known.0 w.used known.1 (nearest_is A table (from_lon_lat A l)).origin known.2

    pub place_used : (w : Work Place) → place_given A table s l ≡ answered w → UsedOn A table s w.used
    place_used w e =
        let known = place_passed w e in
        used_on A table s _ known.0 w.used (with_passed A table s known.1).0 (nearest_is A table (from_lon_lat A l)).origin known.2

-- ---- how a call ends

module _ {X : Type 0} (A : Arith) (s : Set) where
  -- where the slots used are among the set's, they are written
  used_there : (g : Given (Work X)) → ((w : Work X) → g ≡ answered w → written_if_there A s w.used ≡ used_written A s w.used)
      → set_used_if_there A s (used_of g) ≡ set_used A s (used_of g)
  used_there (refused n) there = refl
  used_there (answered w) there = there w refl

  -- the same for what the code has worked out, where it is what the call gives
  pub left_there : (work g : Given (Work X)) → work ≡ g
      → ((w : Work X) → g ≡ answered w → written_if_there A s w.used ≡ used_written A s w.used)
      → set_used_if_there A s (used_of work) ≡ set_used A s (used_of g)
  left_there work g worked there = rw worked (used_there g there)
