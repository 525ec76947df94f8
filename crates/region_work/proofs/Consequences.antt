-- What a reader would try of a region: every position of one that answers has the region's origin and was not refused by place; its points
-- and its set are those of the list of the same positions; and a region of one position is place. They hold for every arithmetic, every
-- table and every set, whatever it holds. Assumes nothing.
use mathlib.Core.Path.{◌≡◌, refl, sym, ap, ◌∙◌}
use mathlib.Core.Bool.{true, not}
use mathlib.Core.List.{List, [], ◌∷◌}
use Prim.Native.Nat.{ℕ, zero, suc, ◌<◌}
use native.Mathlib.Nat.{not-suc-le-zero, le_of_suc-le-suc}
use lib.Dec.{eqb}
use lib.Ieee.{Float}
use lib.ListN.{length, get_or}
use borrow.Author.Tests.{eqb-true, eq-eqb}
use Rattle.std.proofs.lemmas.Bool.{and_parts, not-false}
use Rattle.answer.specs.Given.{answered, passed}
use Rattle.answer.proofs.Given.{refuse_answered, then_answered}
use Rattle.arithmetic.specs.Arith.{Arith}
use Rattle.coordinates.specs.declared.coords.Face.{Face}
use Rattle.coordinates.specs.declared.lonlat.LonLat.{LonLat}
use Rattle.set.specs.Set.{Set}
use Rattle.set.specs.Checks.{check_with}
use Rattle.stores.proofs.TakenWithin.{answered_same}
use Rattle.dodecahedron.specs.Calls.{place_on}
use Rattle.dodecahedron.specs.declared.place.Place.{Place}
use Rattle.place_list.specs.Lists.{placed_one, placed_in_turn, check_counts, check_list, place_list_on}
use Rattle.place_list.specs.declared.PlaceResult.{PlaceResult}
use Rattle.caption_box.specs.Sides.{one_point, grown}
use Rattle.caption_box.specs.EveryList.{grown_all}
use Rattle.region_work.specs.declared.region.Region.{Region}
use Rattle.region_work.specs.Region.{check_positions, first_failing, first_origin, all_on, check_origins, points_of, region_of, region_called, region_given, region_on}

-- ---- lists of results

none_failing : (rs : List PlaceResult) (i : ℕ) (r : PlaceResult) → first_failing rs ≡ passed → i < length rs → (get_or rs i r).refusal ≡ 0
none_failing [] i r e h = absurd (not-suc-le-zero h)
none_failing (q ∷ rs) zero r e h =
    let first = refuse_answered (not (eqb q.refusal 0)) q.refusal (first_failing rs) tt e in
    eqb-true q.refusal 0 (not-false (eqb q.refusal 0) first.0)
none_failing (q ∷ rs) (suc i) r e h =
    let first = refuse_answered (not (eqb q.refusal 0)) q.refusal (first_failing rs) tt e in
    none_failing rs i r first.1 (le_of_suc-le-suc h)

all_on_lem : (o : ℕ) (rs : List PlaceResult) (i : ℕ) (r : PlaceResult) → all_on o rs ≡ true → i < length rs → (get_or rs i r).origin ≡ o
all_on_lem o [] i r e h = absurd (not-suc-le-zero h)
all_on_lem o (q ∷ rs) zero r e h = sym (eqb-true o q.origin (and_parts (eqb o q.origin) (all_on o rs) e).0)
all_on_lem o (q ∷ rs) (suc i) r e h = all_on_lem o rs i r (and_parts (eqb o q.origin) (all_on o rs) e).1 (le_of_suc-le-suc h)

module _ (A : Arith) (table : List Float) (s : Set) where
  -- ---- a region that answers

  -- the tests behind its answer
  module _ (ps : List LonLat) (n m : ℕ) (r : Region) (is : region_given A table s ps n m ≡ answered r) where
    abbrev results : List PlaceResult
    results = (placed_in_turn A table s ps).results

    checked : (check_with A table s ≡ passed) × (check_counts n m ≡ passed)
    unfolding region_given
    checked =
        let set = then_answered (check_with A table s) _ r is in
        let positions = then_answered (check_positions n) _ r set.1 in
        let counts = then_answered (check_counts n m) _ r positions.1 in
        (set.0, counts.0)

    all_passed : (first_failing results ≡ passed) × (check_origins results ≡ passed) × (region_of results ≡ r)
    unfolding region_given
    all_passed =
        let set = then_answered (check_with A table s) _ r is in
        let positions = then_answered (check_positions n) _ r set.1 in
        let counts = then_answered (check_counts n m) _ r positions.1 in
        let places = then_answered (first_failing results) _ r counts.1 in
        let origins = then_answered (check_origins results) _ r places.1 in
        (places.0, origins.0, answered_same origins.1)

    -- no position was refused, and all lie on the region's face
    pub one_face : (i : ℕ) (q : PlaceResult) → i < length results → ((get_or results i q).refusal ≡ 0) × ((get_or results i q).origin ≡ r.origin)
    unfolding check_origins
    one_face i q h =
        let on = all_on (first_origin results) results in
        let same = not-false on (refuse_answered (not on) 16 passed tt all_passed.1).0 in (
          none_failing results i q all_passed.0 h,
          all_on_lem (first_origin results) results i q same h ∙ ap (λ (d : Region). d.origin) all_passed.2,
        )

  -- ---- a region that answers leaves the points and the set of the list of the same positions, lent as many results
  pub as_list : (ps : List LonLat) (points : List Face) (rs : List PlaceResult) (r : Region) → length rs ≡ length points
      → region_given A table s ps (length ps) (length points) ≡ answered r
      → ((region_on A table s ps points).points ≡ points_of (place_list_on A table s ps rs).left.results)
      × ((region_on A table s ps points).set ≡ (place_list_on A table s ps rs).left.set)
  unfolding check_list
  as_list ps points rs r many is =
      let checks = checked ps (length ps) (length points) r is in
      let counts = ap (check_counts (length ps)) many ∙ checks.1 in
      (rw (is, checks.0, counts), rw (is, checks.0, counts))

  -- ---- one position: place's own origin, its face point as the box and as the point, and the set as place leaves it
  pub one_position : (p : LonLat) (f : Face) (place : Place) → check_with A table s ≡ passed → (place_on A table s p).answer ≡ answered place
      → region_on A table s (p ∷ []) (f ∷ [])
      ≡ region_called (answered (record { origin = place.origin; bounds = one_point place.face })) (place.face ∷ []) (place_on A table s p).set
  unfolding region_given check_positions check_counts check_origins placed_one grown_all grown
  one_position p f place fits is = rw (fits, is, eq-eqb place.origin place.origin refl)
