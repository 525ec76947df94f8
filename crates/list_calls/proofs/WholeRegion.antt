-- The contracts of the work and of `write_out` together are a region's.
--     region_refused     a refused call leaves the points and the set
--     region_answered    what is written out is what the call leaves in the points
-- Assumes nothing.
use Rattle.std.proofs.Common.{◌≡◌, ℕ, ◌≤◌, min, Bool, true, false, not, ◌||◌, eqb, ltb, List, [], ◌++◌, Float, length, take, drop, refl, sym, ap, ◌∙◌}
use native.Mathlib.Nat.{min-eq_left, le_of_eq}
use mathlib.Core.Bool.{true≢false}
use mathlib.Core.List.{append-nil}
use lib.ListN.{drop_of_length-le}
use borrow.Author.Tests.{ltb-false, eqb-true, not-false}
use Rattle.answer.specs.Given.{Given, answered, refused, passed}
use Rattle.answer.proofs.Given.{refused_answers_nothing, refuse_answered, then_answered}
use Rattle.arithmetic.specs.Arith.{ieee}
use Rattle.coordinates.specs.declared.lonlat.LonLat.{LonLat}
use Rattle.coordinates.specs.declared.coords.Face.{Face}
use Rattle.set.specs.Set.{Set}
use Rattle.set.specs.Checks.{check_with}
use Rattle.place_list.specs.Lists.{Placed, placed_in_turn, check_counts}
use Rattle.region_work.specs.declared.region.Region.{Region}
use Rattle.region_work.specs.declared.region.Outline.{Outline}
use Rattle.region_work.specs.Region.{check_positions, RegionCalled, region_called, region_left, region_given, region_on}
use Rattle.region_work.specs.Parts.{outlined, region_worked}
use Rattle.list_calls.specs.Copies.{written_out}

or_false : (t u : Bool) → t || u ≡ false → u ≡ false
or_false true u e = absurd (true≢false e)
or_false false u e = e

module _ (table : List Float) (s : Set) (ps : List LonLat) (rs : List Face) where
  abbrev is : Given Region
  is = region_given ieee table s ps (length ps) (length rs)

  abbrev in_turn : Placed
  in_turn = placed_in_turn ieee table s ps

  -- ---- a call that answers has at most 256 positions, and a place for each
  record Fits : Type 0 where
    pub few : length ps ≤ 256
    pub places : length ps ≡ length rs

  fits : (r : Region) → is ≡ answered r → Fits
  unfolding region_given check_positions check_counts
  fits r e =
      let after-set = (then_answered (check_with ieee table s) _ r e).1 in
      let positions = then_answered (check_positions (length ps)) _ r after-set in
      let counts = then_answered (check_counts (length ps) (length rs)) _ r positions.1 in
      let not_None = (refuse_answered (eqb (length ps) 0 || ltb 256 (length ps)) 15 passed tt positions.0).0 in
      let as_many = (refuse_answered (not (eqb (length ps) (length rs))) 14 passed tt counts.0).0 in
      record {
        few = ltb-false 256 (length ps) (or_false (eqb (length ps) 0) (ltb 256 (length ps)) not_None);
        places = eqb-true (length ps) (length rs) (not-false (eqb (length ps) (length rs)) as_many);
      }

  -- ---- what is written out
  all_places : (xs : List Face) → Fits → written_out rs xs (length ps) ≡ take (length ps) xs
  unfolding written_out
  all_places xs f =
      ap (λ (k : ℕ). take k xs ++ drop k rs) (ap (λ (k : ℕ). min k (length rs)) (min-eq_left f.few) ∙ min-eq_left (le_of_eq f.places))
      ∙ ap (λ (l : List Face). take (length ps) xs ++ l) (drop_of_length-le rs {i = length ps} (le_of_eq (sym f.places)))
      ∙ append-nil (take (length ps) xs)

  -- ---- g is what the work came to, and s' the set that is left
  module _ (s' : Set) (g : Given Outline) (says : outlined g (length ps) s' ≡ region_worked ieee table s ps (length ps) (length rs)) where
    left : outlined g (length ps) s' ≡ region_left is in_turn [] s
    unfolding region_worked
    left = says

    pub region_refused : (n : ℕ) (r : Given Region) → g ≡ refused n → r ≡ refused n → region_called r rs s' ≡ region_on ieee table s ps rs
    region_refused n r e er = rw er (by is (sym (ap (λ (g : Given Outline). outlined g (length ps) s') e) ∙ left))
      where
        by : (d : Given Region) → region_called (refused n) [] s' ≡ region_left d in_turn [] s
            → region_called (refused n) rs s' ≡ region_left d in_turn rs s
        by (answered r) e = refused_answers_nothing n r (ap (λ (c : RegionCalled). c.answer) e)
        by (refused k) e = ap (λ (c : RegionCalled). region_called c.answer rs c.set) e

    pub region_answered : (o : Outline) (points : List Face) → g ≡ answered o → points ≡ written_out rs o.points (length ps)
        → region_called (answered o.region) points s' ≡ region_on ieee table s ps rs
    region_answered o points e ew = rw ew (by is refl (sym (ap (λ (g : Given Outline). outlined g (length ps) s') e) ∙ left))
      where
        by : (d : Given Region) → is ≡ d → region_called (answered o.region) (take (length ps) o.points) s' ≡ region_left d in_turn [] s
            → region_called (answered o.region) (written_out rs o.points (length ps)) s' ≡ region_left d in_turn rs s
        by (answered r) e says = ap (λ (l : List Face). region_called (answered o.region) l s') (all_places o.points (fits r e)) ∙ says
        by (refused k) e says = refused_answers_nothing k o.region (sym (ap (λ (c : RegionCalled). c.answer) says))
