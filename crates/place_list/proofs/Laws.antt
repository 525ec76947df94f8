-- What a reader would try of a list of positions: a call that is refused, no position, one, two lists one after the other, a position that is refused, and
-- the result at a place. They hold for every arithmetic, every table and every set, whatever it holds. Assumes nothing.
use mathlib.Core.Path.{◌≡◌, refl, sym, ap, ◌∙◌}
use mathlib.Core.List.{List, [], ◌∷◌, ◌++◌}
use Prim.Native.Nat.{ℕ, zero, suc, ◌<◌}
use native.Mathlib.Nat.{not-suc-le-zero, le_of_suc-le-suc}
use lib.Ieee.{Float}
use lib.ListN.{length, get_or, take, length-append}
use borrow.Author.Tests.{eq-eqb}
use Rattle.answer.specs.Given.{Given, answered, refused, passed, and_then}
use Rattle.answer.proofs.Given.{then_pass}
use Rattle.stores.specs.Used.{all_written}
use Rattle.arithmetic.specs.Arith.{Arith}
use Rattle.coordinates.specs.declared.lonlat.LonLat.{LonLat}
use Rattle.set.specs.Set.{Set}
use Rattle.set.specs.Checks.{check_with}
use Rattle.origin.specs.Table.{check_table}
use Rattle.stores.specs.declared.used.Used.{Used}
use Rattle.dodecahedron.specs.Work.{used_of, set_used}
use Rattle.dodecahedron.specs.Calls.{place_given, place_on}
use Rattle.place_list.specs.declared.PlaceResult.{PlaceResult}
use Rattle.place_list.specs.Lists.{result_of, Placed, placed, placed_one, placed_in_turn, check_counts, check_list, Called, called, unless_refused, place_list_on}
use Rattle.place_list.specs.Uses.{counted, used_in_turn}
use Rattle.place_list.proofs.Lengths.{in_turn_check}

module _ (A : Arith) (table : List Float) where
  -- the checks of the set and the table
  abbrev set_check : Set → Given (Unit {0})
  set_check s = check_with A table s

  -- ---- a refusal of the set or the table comes before 14
  pub set_first : (s : Set) (positions results n : ℕ) → set_check s ≡ refused n → check_list A table s positions results ≡ refused n
  unfolding check_list
  set_first s positions results n wrong = rw wrong

  -- ---- a call that is refused leaves the results and the set as they were
  pub refused_list : (s : Set) (ps : List LonLat) (rs : List PlaceResult) (n : ℕ) → check_list A table s (length ps) (length rs) ≡ refused n
      → place_list_on A table s ps rs ≡ called (refused n) rs s
  refused_list s ps rs n wrong = rw wrong

  -- ---- the checks where there is a result for each position
  check_alike : (s : Set) (m n : ℕ) → m ≡ n → check_list A table s m n ≡ set_check s
  unfolding check_list check_counts
  check_alike s m n e = rw (eq-eqb m n e) (then_pass (set_check s) passed refl)

  -- a list with a result for each position, by what the set's checks give
  alike : (s : Set) (ps : List LonLat) (rs : List PlaceResult) → length ps ≡ length rs
      → place_list_on A table s ps rs ≡ record { answer = set_check s; left = unless_refused (set_check s) (placed_in_turn A table s ps) (placed rs s) }
  alike s ps rs e =
      ap (λ (g : Given (Unit {0})). record { answer = g; left = unless_refused g (placed_in_turn A table s ps) (placed rs s) }) (check_alike s _ _ e)

  -- ---- none: nothing changes, on any set
  pub empty_list : (s : Set) → place_list_on A table s [] [] ≡ called (set_check s) [] s
  empty_list s = alike s [] [] refl ∙ ap (λ (d : Placed). record { answer = set_check s; left = d }) (nothing_left (set_check s))
    where
      nothing_left : (g : Given (Unit {0})) → unless_refused g (placed [] s) (placed [] s) ≡ placed [] s
      nothing_left (answered u) = refl
      nothing_left (refused n) = refl

  -- ---- one: place itself
  pub one_position : (s : Set) (p : LonLat) (r : PlaceResult) → set_check s ≡ passed
      → place_list_on A table s (p ∷ []) (r ∷ []) ≡ called passed (result_of (place_on A table s p).answer ∷ []) (place_on A table s p).set
  unfolding placed_one
  one_position s p r fits = alike s (p ∷ []) (r ∷ []) refl ∙ rw fits

  -- ---- two lists
  abbrev both : Placed → Placed → Placed
  both first second = placed (first.results ++ second.results) second.set

  pub in_turn_both : (s : Set) (ps qs : List LonLat)
      → placed_in_turn A table s (ps ++ qs) ≡ both (placed_in_turn A table s ps) (placed_in_turn A table (placed_in_turn A table s ps).set qs)
  in_turn_both s [] qs = refl
  in_turn_both s (p ∷ ps) qs =
      let one = placed_one A table s p in
      ap (λ (d : Placed). placed (one.result ∷ d.results) d.set) (in_turn_both one.set ps qs)

  module _ (s : Set) (ps qs : List LonLat) (rs ts : List PlaceResult) (first_alike : length ps ≡ length rs) (second_alike : length qs ≡ length ts) where
    abbrev first : Called
    first = place_list_on A table s ps rs

    abbrev second : Called
    second = place_list_on A table first.left.set qs ts

    -- the two calls one after the other answer alike, and are the call on both lists
    pub two_lists : (second.answer ≡ first.answer)
        × (place_list_on A table s (ps ++ qs) (rs ++ ts) ≡ record { answer = first.answer; left = both first.left second.left })
    two_lists = by_set (set_check s) refl
      where
        alike_both : length (ps ++ qs) ≡ length (rs ++ ts)
        alike_both = length-append ps qs ∙ rw (first_alike, second_alike) (sym (length-append rs ts))

        by_set : (g : Given (Unit {0})) → set_check s ≡ g → (second.answer ≡ first.answer)
            × (place_list_on A table s (ps ++ qs) (rs ++ ts) ≡ record { answer = first.answer; left = both first.left second.left })
        by_set (answered u) fits =
            let one = check_alike s _ _ first_alike ∙ fits in
            let kept = ap (λ (g : Given (Unit {0})). and_then g (check_table A table)) (in_turn_check A table s ps) in
            let other = check_alike (placed_in_turn A table s ps).set _ _ second_alike ∙ kept ∙ fits in
            let whole = check_alike s _ _ alike_both ∙ fits in
            rw (one, other, whole) (refl, ap (λ (d : Placed). record { answer = passed; left = d }) (in_turn_both s ps qs))
        by_set (refused n) wrong =
            let one = check_alike s _ _ first_alike ∙ wrong in
            let other = check_alike s _ _ second_alike ∙ wrong in
            let whole = check_alike s _ _ alike_both ∙ wrong in
            rw (one, other, whole) (refl, refl)

  -- ---- a position that is refused has its number in its result, and the list goes on as if it were not there
  pub refused_position : (s : Set) (p : LonLat) (ps : List LonLat) (n : ℕ) → place_given A table s p ≡ refused n
      → placed_in_turn A table s (p ∷ ps) ≡ placed (result_of (refused n) ∷ (placed_in_turn A table s ps).results) (placed_in_turn A table s ps).set
  unfolding placed_one
  refused_position s p ps n e = rw e

  -- ---- what stood in the results is not read
  pub any_results : (s : Set) (ps : List LonLat) (rs ts : List PlaceResult) → length rs ≡ length ts → check_list A table s (length ps) (length rs) ≡ passed
      → place_list_on A table s ps rs ≡ place_list_on A table s ps ts
  any_results s ps rs ts alike-results fits =
      let other = ap (check_list A table s (length ps)) (sym alike-results) ∙ fits in
      rw (fits, other)

  -- ---- there is a result for each position, and each is place's on the set that those before have left
  pub results_length : (s : Set) (ps : List LonLat) → length (placed_in_turn A table s ps).results ≡ length ps
  results_length s [] = refl
  results_length s (p ∷ ps) = ap suc (results_length (placed_one A table s p).set ps)

  pub result_at : (s : Set) (ps : List LonLat) (i : ℕ) (r : PlaceResult) (p : LonLat) → i < length ps
      → get_or (placed_in_turn A table s ps).results i r ≡ result_of (place_on A table (placed_in_turn A table s (take i ps)).set (get_or ps i p)).answer
  unfolding placed_one
  result_at s [] i r p h = absurd (not-suc-le-zero h)
  result_at s (q ∷ ps) zero r p h = refl
  result_at s (q ∷ ps) (suc i) r p h = result_at (place_on A table s q).set ps i r p (le_of_suc-le-suc h)

  -- ---- the set that is left: what the answered places of the list use, written in turn
  pub in_turn_written : (s : Set) (ps : List LonLat) → (placed_in_turn A table s ps).set ≡ all_written A s (used_in_turn A table s ps)
  unfolding placed_one
  in_turn_written s [] = refl
  in_turn_written s (p ∷ ps) = in_turn_written (place_on A table s p).set ps ∙ one_more (used_of (place_given A table s p)) _
    where
      one_more : (g : Given Used) (us : List Used) → all_written A (set_used A s g) us ≡ all_written A s (counted g us)
      one_more (refused n) us = refl
      one_more (answered u) us = refl
