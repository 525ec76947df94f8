-- What a call on a list has after each turn of its loop, with any table, and that the last of it is what its contract says.
--     at_turn        the results and the set once the first i positions are placed
--     at_end         once all are placed, they are what placing in turn gives, where there is a result for each position
--     list_passed    a call that passed has a result for each position
--     Turned         the loop's invariant: the results and the set are those of turn i. It holds before the first turn
--     long           there are as many results as there were
--     turned_next    it is kept over a turn
--     turned_end     what the loop leaves, where the call passed, is what `place_list_on` says
-- Assumes nothing.
use mathlib.Core.Path.{◌≡◌, refl, sym, ◌∙◌, ap}
use mathlib.Core.Bool.{not}
use mathlib.Core.List.{List, [], ◌∷◌}
use Prim.Native.Nat.{ℕ, zero, suc}
use native.Mathlib.Omega.{arith}
use lib.Dec.{eqb}
use lib.Ieee.{Float, nan}
use lib.ListN.{length, get_or, set, length-set}
use borrow.Author.Tests.{eqb-true, not-false}
use Rattle.answer.specs.Given.{passed}
use Rattle.answer.proofs.Given.{refuse_answered, then_answered}
use Rattle.arithmetic.specs.Arith.{Arith}
use Rattle.coordinates.specs.declared.lonlat.LonLat.{LonLat}
use Rattle.set.specs.Set.{Set}
use Rattle.set.specs.Checks.{check_with}
use Rattle.place_list.specs.declared.PlaceResult.{PlaceResult}
use Rattle.place_list.specs.Lists.{Step, step, Placed, called, placed, placed_one, placed_in_turn, check_counts, check_list, place_list_on}

-- what stands behind the end of a list of positions
abbrev pub nowhere : LonLat
nowhere = record { longitude = record { 0 = nan }; latitude = record { 0 = nan } }

-- one result in front
abbrev led : PlaceResult → Placed → Placed
led r d = placed (r ∷ d.results) d.set

same_tail : {m n : ℕ} → suc m ≡ suc n → m ≡ n
same_tail e = omega arith

not_none : {n : ℕ} → suc n ≡ 0 → ⊥
not_none e = omega arith

module _ (A : Arith) (table : List Float) where
  abbrev turned : List LonLat → ℕ → Placed → Placed
  turned ps i d =
      let one = placed_one A table d.set (get_or ps i nowhere) in
      placed (set d.results i one.result) one.set

  abbrev pub at_turn : Set → List LonLat → List PlaceResult → ℕ → Placed
  at_turn s ps rs zero = placed rs s
  at_turn s ps rs (suc i) = turned ps i (at_turn s ps rs i)

  -- the turns after the first are those of the rest of the lists
  ahead : (s : Set) (p : LonLat) (ps : List LonLat) (r : PlaceResult) (rs : List PlaceResult) (i : ℕ)
      → at_turn s (p ∷ ps) (r ∷ rs) (suc i) ≡ led (placed_one A table s p).result (at_turn (placed_one A table s p).set ps rs i)
  ahead s p ps r rs zero = refl
  ahead s p ps r rs (suc i) = ap (turned (p ∷ ps) (suc i)) (ahead s p ps r rs i)

  pub at_end : (s : Set) (ps : List LonLat) (rs : List PlaceResult) → length ps ≡ length rs → at_turn s ps rs (length ps) ≡ placed_in_turn A table s ps
  at_end s [] [] l = refl
  at_end s [] (r ∷ rs) l = absurd (not_none (sym l))
  at_end s (p ∷ ps) [] l = absurd (not_none l)
  at_end s (p ∷ ps) (r ∷ rs) l =
      let one = placed_one A table s p in
      ahead s p ps r rs (length ps) ∙ ap (led one.result) (at_end one.set ps rs (same_tail l))

-- ---- a call that passed has a set of the right lengths, and a result for each position
pub list_passed : (A : Arith) (table : List Float) (s : Set) (m n : ℕ) → check_list A table s m n ≡ passed → (check_with A table s ≡ passed) × (m ≡ n)
unfolding check_list check_counts
list_passed A table s m n e =
    let tests = then_answered (check_with A table s) (check_counts m n) tt e in
    let counts = refuse_answered (not (eqb m n)) 14 passed tt tests.1 in
    (tests.0, eqb-true m n (not-false (eqb m n) counts.0))

module _ (A : Arith) (table : List Float) (s : Set) (ps : List LonLat) (rs : List PlaceResult) where
  -- what the loop has once i positions are placed
  abbrev pub Turned : ℕ → List PlaceResult → Set → Type 0
  Turned i results t = placed results t ≡ at_turn A table s ps rs i

  turn_long : (i : ℕ) → length (at_turn A table s ps rs i).results ≡ length rs
  turn_long zero = refl
  turn_long (suc i) = length-set (at_turn A table s ps rs i).results i _ ∙ turn_long i

  pub long : (i : ℕ) {results : List PlaceResult} {t : Set} → Turned i results t → length results ≡ length rs
  long i at = ap (λ (d : Placed). length d.results) at ∙ turn_long i

  pub turned_next : (i : ℕ) (r : PlaceResult) {results : List PlaceResult} {t t' : Set} → Turned i results t
      → step r t' ≡ placed_one A table t (get_or ps i nowhere) → Turned (suc i) (set results i r) t'
  turned_next i r {results} at e =
      ap (λ (one : Step). placed (set results i one.result) one.set) e ∙ ap (turned A table ps i) at

  pub turned_end : (i : ℕ) {results : List PlaceResult} {t : Set} → Turned i results t → check_list A table s (length ps) (length rs) ≡ passed
      → i ≡ length ps → called passed results t ≡ place_list_on A table s ps rs
  turned_end i at e all =
      let as_many = (list_passed A table s (length ps) (length rs) e).1 in
      ap (λ (d : Placed). called passed d.results d.set) (at ∙ ap (at_turn A table s ps rs) all ∙ at_end A table s ps rs as_many) ∙ sym (rw e)
