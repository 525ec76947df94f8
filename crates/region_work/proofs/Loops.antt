-- The lists that the loops of `survey` and `keep` go through: a turn changes neither what the survey will come to nor what the set will be.
-- Assumes nothing.
use mathlib.Core.Path.{◌≡◌, refl, sym, ap, ◌∙◌}
use mathlib.Core.Bool.{Bool}
use mathlib.Core.List.{List, [], ◌∷◌, ◌++◌}
use Prim.Native.Nat.{ℕ, suc, ◌+◌, ◌<◌}
use native.Mathlib.Omega.{arith}
use lib.Ieee.{Float}
use lib.ListN.{length, get_or, set, take, drop}
use lib.Seq.{drop-cons, take-suc-set}
use Rattle.answer.specs.Given.{Given, answered, refused, bind}
use Rattle.arithmetic.specs.Arith.{Arith}
use Rattle.coordinates.specs.declared.coords.Face.{Face}
use Rattle.coordinates.specs.declared.lonlat.LonLat.{LonLat}
use Rattle.set.specs.Set.{Set}
use Rattle.dodecahedron.specs.declared.work.Work.{Work}
use Rattle.dodecahedron.specs.Calls.{place_given, place_on}
use Rattle.dodecahedron.specs.declared.place.Place.{Place}
use Rattle.place_list.specs.Lists.{placed_one, placed_in_turn}
use Rattle.region_work.specs.declared.seen.Seen.{Seen}
use Rattle.region_work.specs.Parts.{slot_empty, seen_next, Surveyed, surveyed, survey_of}

snoc : {X : Type 0} (xs : List X) (y : X) (ys : List X) → (xs ++ (y ∷ [])) ++ ys ≡ xs ++ (y ∷ ys)
snoc [] y ys = refl
snoc (x ∷ xs) y ys = ap (λ (l : List _). x ∷ l) (snoc xs y ys)

one_more : (i : ℕ) → i + 1 ≡ suc i
one_more i = omega arith

-- element i with what follows it
from_place : {X : Type 0} (xs : List X) (i : ℕ) (d : X) → i < length xs → drop i xs ≡ get_or xs i d ∷ drop (i + 1) xs
from_place {X} xs i d h = drop-cons xs i d h ∙ ap (λ (k : ℕ). get_or xs i d ∷ drop k xs) (sym (one_more i))

module _ (A : Arith) (table : List Float) where
  -- ---- placing in turn

  pub keep_goes : (s s' : Set) (i : ℕ) (ps : List LonLat) (d : LonLat) → i < length ps → s' ≡ (place_on A table s (get_or ps i d)).set
      → (placed_in_turn A table s' (drop (i + 1) ps)).set ≡ (placed_in_turn A table s (drop i ps)).set
  unfolding placed_one
  keep_goes s s' i ps d h e =
      ap (λ (t : Set). (placed_in_turn A table t (drop (i + 1) ps)).set) e
      ∙ ap (λ (qs : List LonLat). (placed_in_turn A table s qs).set) (sym (from_place ps i d h))

  -- ---- the survey

  -- points in front of those that are still to come
  abbrev pub behind : List Face → Given Surveyed → Given Surveyed
  behind fs g = bind g λ d. answered (surveyed d.seen (fs ++ d.points))

  module _ (s : Set) where
    -- what the survey will come to, once i positions are worked out
    abbrev pub going : Seen → List Face → ℕ → List LonLat → Given Surveyed
    going seen points i ps = behind (take i points) (survey_of A table s seen (drop i ps))

    module _ (seen : Seen) (points : List Face) (i : ℕ) (ps : List LonLat) (d : LonLat) (h : i < length ps) where
      -- what is still to come, by what place gives for the next position
      next_is : (g : Given (Work Place)) → place_given A table s (get_or ps i d) ≡ g → survey_of A table s seen (drop i ps)
          ≡ bind g λ w.
          bind (survey_of A table s (seen_next seen w.answer (slot_empty s w.used)) (drop (i + 1) ps)) λ rest.
          answered (surveyed rest.seen (w.answer.face ∷ rest.points))
      next_is g e = ap (survey_of A table s seen) (from_place ps i d h) ∙ rw e

      pub survey_goes : (seen' : Seen) (empty : Bool) (w : Work Place) → i < length points → place_given A table s (get_or ps i d) ≡ answered w
          → empty ≡ slot_empty s w.used → seen' ≡ seen_next seen w.answer empty
          → going seen' (set points i w.answer.face) (i + 1) ps ≡ going seen points i ps
      survey_goes seen' empty w long e full known =
          ap (λ (v : Seen). going v (set points i w.answer.face) (i + 1) ps) (known ∙ ap (seen_next seen w.answer) full)
          ∙ ap (λ (fs : List Face). behind fs rest) (ap (λ (k : ℕ). take k (set points i w.answer.face)) (one_more i) ∙ take-suc-set points i _ long)
          ∙ shifted rest
          ∙ ap (behind (take i points)) (sym (next_is (answered w) e))
        where
          rest : Given Surveyed
          rest = survey_of A table s (seen_next seen w.answer (slot_empty s w.used)) (drop (i + 1) ps)

          shifted : (g : Given Surveyed) → behind (take i points ++ (w.answer.face ∷ [])) g
              ≡ behind (take i points) (bind g λ r. answered (surveyed r.seen (w.answer.face ∷ r.points)))
          shifted (answered r) = ap (λ (fs : List Face). answered (surveyed r.seen fs)) (snoc (take i points) w.answer.face r.points)
          shifted (refused k) = refl
