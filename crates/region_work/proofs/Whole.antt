-- The call on plain values, put together from what its parts ensure. Assumes nothing.
use mathlib.Core.Path.{◌≡◌, refl, sym, ap, ◌∙◌}
use mathlib.Core.Bool.{Bool, true, false, true≢false}
use mathlib.Core.List.{List, [], ◌∷◌}
use Prim.Native.Nat.{ℕ, ◌≤◌}
use lib.Dec.{eqb, ltb}
use lib.Ieee.{Float}
use lib.ListN.{length, take}
use borrow.Author.Tests.{ltb-false}
use Rattle.std.proofs.lemmas.Bool.{or_parts}
use Rattle.answer.specs.Given.{Given, answered, refused, passed, refuse_if, and_then, bind}
use Rattle.answer.proofs.Given.{refuse_answered, then_answered}
use Rattle.arithmetic.specs.Arith.{Arith}
use Rattle.coordinates.specs.declared.lonlat.LonLat.{LonLat}
use Rattle.set.specs.Set.{Set}
use Rattle.set.specs.Checks.{check_with}
use Rattle.stores.proofs.TakenWithin.{answered_same}
use Rattle.place_list.specs.Lists.{placed_in_turn, check_counts}
use Rattle.place_list.specs.declared.PlaceResult.{PlaceResult}
use Rattle.region_work.specs.declared.region.Region.{Region}
use Rattle.region_work.specs.declared.region.Outline.{Outline}
use Rattle.region_work.specs.declared.seen.Seen.{Seen}
use Rattle.region_work.specs.Region.{check_positions, first_failing, check_origins, points_of, region_of, region_called, region_given}
use Rattle.region_work.specs.Parts.{nothing_seen, Surveyed, surveyed, survey_of, check_region, judged, kept, outlined, region_worked}
use Rattle.region_work.proofs.Unmoved.{each, in_turn_each}
use Rattle.region_work.proofs.Surveyed.{any_empty, known, survey_known, in_turn_kept}

-- ---- how many positions there are

-- 15 passed: there is one, and there are no more than 256
counted : (n : ℕ) → check_positions n ≡ passed → (eqb n 0 ≡ false) × (n ≤ 256)
unfolding check_positions
counted n e =
    let both = or_parts (eqb n 0) (ltb 256 n) (refuse_answered _ 15 passed tt e).0 in
    (both.0, ltb-false 256 n both.1)

pub few : (A : Arith) (table : List Float) (s : Set) (n m : ℕ) → check_region A table s n m ≡ passed → (eqb n 0 ≡ false) × (n ≤ 256)
unfolding check_region
few A table s n m e =
    let set = then_answered (check_with A table s) _ tt e in
    counted n (then_answered (check_positions n) (check_counts n m) tt set.1).0

-- the first of them
pub some : (ps : List LonLat) → eqb (length ps) 0 ≡ false → (p : LonLat) × (qs : List LonLat) × (ps ≡ p ∷ qs)
some [] e = absurd (true≢false e)
some (p ∷ ps) e = (p, ps, refl)

-- ---- the answer

-- from what the survey came to
abbrev pub judged_by : Given Surveyed → Given Region
judged_by g = bind g λ d. judged d.seen

module _ (A : Arith) (table : List Float) (s : Set) (ps : List LonLat) (n m : ℕ) where
  abbrev results : List PlaceResult
  results = (placed_in_turn A table s ps).results

  -- what follows the refusals that no position is needed for
  abbrev follows : List PlaceResult → Given Region
  follows rs = and_then (first_failing rs) (and_then (check_origins rs) (answered (region_of rs)))

  first_checks : region_given A table s ps n m ≡ and_then (check_region A table s n m) (follows results)
  unfolding region_given check_region
  first_checks = by (check_with A table s) (check_positions n)
    where
      by : (a b : Given (Unit {0}))
          → and_then a (and_then b (and_then (check_counts n m) (follows results))) ≡ and_then (and_then a (and_then b (check_counts n m))) (follows results)
      by (answered u) (answered v) = refl
      by (answered u) (refused k) = refl
      by (refused k) b = refl

  pub refused_before : (k : ℕ) → check_region A table s n m ≡ refused k → region_given A table s ps n m ≡ refused k
  refused_before k e = first_checks ∙ rw e

  abbrev Some : Type 0
  Some = (p : LonLat) × (qs : List LonLat) × (ps ≡ p ∷ qs)

  survey_tells : Some → survey_of A table s nothing_seen ps
      ≡ and_then (first_failing (each A table s ps)) (answered (surveyed (known A table s ps) (points_of (each A table s ps))))
  survey_tells one =
      rw one.2 (survey_known A table s one.0 one.1)

  follows_judged : Some → follows results ≡ judged_by (survey_of A table s nothing_seen ps)
  unfolding check_origins
  follows_judged one =
      ap follows (in_turn_each A table s ps)
      ∙ by (first_failing (each A table s ps)) ∙ sym (ap judged_by (survey_tells one))
    where
      rs : List PlaceResult
      rs = each A table s ps

      by : (check : Given (Unit {0})) → and_then check (and_then (check_origins rs) (answered (region_of rs)))
          ≡ judged_by (and_then check (answered (surveyed (known A table s ps) (points_of rs))))
      by (answered u) = by_origins (known A table s ps).differ
        where
          by_origins : (b : Bool) → and_then (refuse_if b 16 passed) (answered (region_of rs)) ≡ refuse_if b 16 (answered (region_of rs))
          by_origins true = refl
          by_origins false = refl
      by (refused k) = refl

  pub judged_is : check_region A table s n m ≡ passed → Some → region_given A table s ps n m ≡ judged_by (survey_of A table s nothing_seen ps)
  judged_is e one = first_checks ∙ rw e (follows_judged one)

  -- ---- what the core leaves

  pub worked_refused : (k : ℕ) (g : Given Outline) → region_given A table s ps n m ≡ refused k → g ≡ refused k
      → outlined g n s ≡ region_worked A table s ps n m
  unfolding region_worked
  worked_refused k g e eg = rw (eg, e)

  pub worked_answered : (o : Outline) (seen : Seen) (exit : Set) → region_given A table s ps n m ≡ answered o.region → Some
      → survey_of A table s nothing_seen ps ≡ answered (surveyed seen (take n o.points)) → exit ≡ kept seen.pending (placed_in_turn A table s ps) s
      → outlined (answered o) n exit ≡ region_worked A table s ps n m
  unfolding region_worked
  worked_answered o seen exit e one found es =
      let points = take n o.points in
      let tells = then_answered (first_failing (each A table s ps)) _ (surveyed seen points) (sym (survey_tells one) ∙ found) in
      let is : surveyed (known A table s ps) (points_of (each A table s ps)) ≡ surveyed seen points = answered_same tells.1 in
      let all : points ≡ points_of results = ap (λ (d : Surveyed). d.points) (sym is) ∙ ap points_of (sym (in_turn_each A table s ps)) in
      let pending : seen.pending ≡ any_empty A table s ps = ap (λ (d : Surveyed). d.seen.pending) (sym is) in
      rw (e, es, all) (ap (region_called (answered o.region) (points_of results)) (by seen.pending pending))
    where
      by : (b : Bool) → b ≡ any_empty A table s ps → kept b (placed_in_turn A table s ps) s ≡ (placed_in_turn A table s ps).set
      by true e = refl
      by false e = sym (in_turn_kept A table s ps (sym e))
