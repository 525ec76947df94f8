-- Lists of positions on sets that calls have left: every position's result is place's own on a newly opened set, whatever stands before
-- it in the list. So such lists give the same on two sets, and the order of the positions alters no position's result. Assumes nothing.
use mathlib.Core.Path.{◌≡◌, refl, sym, ap, ap₂, ◌∙◌}
use mathlib.Core.List.{List, [], ◌∷◌}
use Prim.Native.Nat.{ℕ}
use lib.Ieee.{Float}
use lib.ListN.{length}
use Rattle.answer.specs.Given.{Given, answered, refused, and_then}
use Rattle.arithmetic.specs.Arith.{ieee}
use Rattle.coordinates.specs.declared.coords.Face.{Face}
use Rattle.coordinates.specs.declared.lonlat.LonLat.{LonLat}
use Rattle.origin.specs.Table.{check_table}
use Rattle.set.specs.Set.{Set}
use Rattle.stores.specs.declared.used.Used.{Used}
use Rattle.dodecahedron.specs.Work.{answer_of, used_of, set_used}
use Rattle.dodecahedron.specs.Calls.{place_given}
use Rattle.place_list.specs.Lists.{result_of, Placed, placed, placed_one, placed_in_turn, check_counts, check_list, unless_refused, place_list_on}
use Rattle.place_list.specs.declared.PlaceResult.{PlaceResult}
use Rattle.region_work.specs.declared.region.Region.{Region}
use Rattle.region_work.specs.Region.{check_positions, first_failing, check_origins, points_of, region_of, region_left, region_given, region_on}
use Rattle.histories.specs.EveryList.{SameAnswers}
use Rattle.histories.specs.Results.{each}
use Rattle.histories.proofs.Told.{Since}
use Rattle.histories.proofs.Taken.{Good}
use Rattle.histories.proofs.Uses.{UsedOn, place_on}
use Rattle.histories.proofs.Steps.{used_good}
use Rattle.histories.proofs.Panels.{step_check, step_same}
use Rattle.histories.proofs.Answers.{same_checks, forward_same, inverse_same, place_same, unplace_same}

-- what a place has left is still good
good_after : (table : List Float) (w : Since) (s : Set) → Good table w s → (g : Given Used) → ((u : Used) → g ≡ answered u → UsedOn table s u)
    → (v : Since) × Good table v (set_used ieee s g)
good_after table w s good (refused n) on = (w, good)
good_after table w s good (answered u) on = (_, used_good table w s good u (on u refl))

-- a region's answer is handed on as it was given
left_answer : (g : Given Region) (d : Placed) (points : List Face) (s : Set) → (region_left g d points s).answer ≡ g
left_answer (answered r) d points s = refl
left_answer (refused n) d points s = refl

module _ (table : List Float) (v : Since) (n : Set) (also : Good table v n) where
  pub in_turn_each : (ps : List LonLat) (w : Since) (s : Set) → Good table w s → (placed_in_turn ieee table s ps).results ≡ each table n ps
  unfolding placed_one
  in_turn_each [] w s good = refl
  in_turn_each (p ∷ ps) w s good =
      let own = ap (λ (g : Given _). result_of (answer_of g)) (place_same table w v s n good also p) in
      let next = good_after table w s good (used_of (place_given ieee table s p)) (place_on table s p) in
      ap₂ (λ (r : PlaceResult) (rs : List PlaceResult). r ∷ rs) own (in_turn_each ps next.0 _ next.1)

module _ (table : List Float) (w v : Since) (s n : Set) (good : Good table w s) (also : Good table v n) where
  same_results : (ps : List LonLat) → (placed_in_turn ieee table s ps).results ≡ (placed_in_turn ieee table n ps).results
  same_results ps = in_turn_each table v n also ps w s good ∙ sym (in_turn_each table v n also ps v n also)

  same_check : (m k : ℕ) → check_list ieee table s m k ≡ check_list ieee table n m k
  unfolding check_list
  same_check m k = ap (λ (g : Given (Unit {0})). and_then (and_then g (check_table ieee table)) (check_counts m k)) (same_checks table w v s n good also)

  list_same : (ps : List LonLat) (rs : List PlaceResult) → (place_list_on ieee table s ps rs).left.results ≡ (place_list_on ieee table n ps rs).left.results
  list_same ps rs = by (check_list ieee table s (length ps) (length rs)) _ (same_check (length ps) (length rs))
    where
      by : (g h : Given (Unit {0})) → g ≡ h
          → (unless_refused g (placed_in_turn ieee table s ps) (placed rs s)).results
          ≡ (unless_refused h (placed_in_turn ieee table n ps) (placed rs n)).results
      by (answered u) h e = same_results ps ∙ ap (λ (c : Given (Unit {0})). (unless_refused c (placed_in_turn ieee table n ps) (placed rs n)).results) e
      by (refused k) h e = ap (λ (c : Given (Unit {0})). (unless_refused c (placed_in_turn ieee table n ps) (placed rs n)).results) e

  -- ---- a region

  same_region : (ps : List LonLat) (k m : ℕ) → region_given ieee table s ps k m ≡ region_given ieee table n ps k m
  unfolding region_given
  same_region ps k m =
      ap₂ (λ (check : Given (Unit {0})) (rs : List PlaceResult).
      and_then (and_then check (check_table ieee table))
      (and_then (check_positions k)
      (and_then (check_counts k m)
      (and_then (first_failing rs)
      (and_then (check_origins rs)
      (answered (region_of rs)))))))
      (same_checks table w v s n good also) (same_results ps)

  region_same : (ps : List LonLat) (points : List Face) → (region_on ieee table s ps points).points ≡ (region_on ieee table n ps points).points
  region_same ps points = by _ _ (same_region ps (length ps) (length points))
    where
      by : (g h : Given Region) → g ≡ h
          → (region_left g (placed_in_turn ieee table s ps) points s).points ≡ (region_left h (placed_in_turn ieee table n ps) points n).points
      by (answered r) h e = ap points_of (same_results ps) ∙ ap (λ (c : Given Region). (region_left c (placed_in_turn ieee table n ps) points n).points) e
      by (refused k) h e = ap (λ (c : Given Region). (region_left c (placed_in_turn ieee table n ps) points n).points) e

  region_answer : (ps : List LonLat) (points : List Face) → (region_on ieee table s ps points).answer ≡ (region_on ieee table n ps points).answer
  region_answer ps points =
      left_answer (region_given ieee table s ps (length ps) (length points)) _ points s
      ∙ same_region ps (length ps) (length points)
      ∙ sym (left_answer (region_given ieee table n ps (length ps) (length points)) _ points n)

  pub same_answers : SameAnswers table s n
  same_answers =
      record {
        forward = λ p o. ap answer_of (forward_same table w v s n good also p o);
        inverse = λ f o. ap answer_of (inverse_same table w v s n good also f o);
        place = λ p. ap answer_of (place_same table w v s n good also p);
        unplace = λ f o. ap answer_of (unplace_same table w v s n good also f o);
        place_list = λ ps rs. (same_check (length ps) (length rs), list_same ps rs);
        region = λ ps points. (region_answer ps points, region_same ps points);
        step = λ b. (step_check table w v s n good also b, step_same table w v s n good also b);
      }
