-- What the survey comes to, in the definition's words: the first failing position's number, or the first origin, whether one differs from
-- it, whether a used slot is empty, the box, and the points. And where no used slot is empty, placing in turn leaves the set as it was.
-- Assumes nothing.
use mathlib.Core.Path.{◌≡◌, refl, sym, ap, ◌∙◌}
use mathlib.Core.Bool.{Bool, true, false, not, cond, ◌&&◌, ◌||◌, or-false, or_assoc, true≢false}
use mathlib.Core.List.{List, [], ◌∷◌}
use Prim.Native.Nat.{ℕ}
use lib.Dec.{eqb}
use lib.Ieee.{Float}
use borrow.Author.Tests.{eq-eqb}
use Rattle.std.proofs.lemmas.Bool.{or_parts}
use Rattle.answer.specs.Given.{Given, answered, refused, passed, and_then, bind}
use Rattle.answer.proofs.Given.{refuse_answered}
use Rattle.arithmetic.specs.Arith.{Arith}
use Rattle.coordinates.specs.declared.coords.Face.{Face}
use Rattle.coordinates.specs.declared.lonlat.LonLat.{LonLat}
use Rattle.set.specs.Set.{Set}
use Rattle.stores.specs.declared.used.Used.{Used}
use Rattle.dodecahedron.specs.Work.{answer_of, used_of, set_used}
use Rattle.dodecahedron.specs.declared.work.Work.{Work}
use Rattle.dodecahedron.specs.Calls.{place_given}
use Rattle.dodecahedron.specs.declared.place.Place.{Place}
use Rattle.place_list.specs.Lists.{result_of, placed_one, placed_in_turn}
use Rattle.caption_box.specs.declared.CaptionBox.{CaptionBox}
use Rattle.caption_box.specs.Sides.{new_box, one_point, later_point, grown}
use Rattle.caption_box.specs.EveryList.{grown_all}
use Rattle.region_work.specs.declared.seen.Seen.{Seen}
use Rattle.region_work.specs.Region.{first_failing, first_origin, all_on, points_of}
use Rattle.region_work.specs.Parts.{slot_empty, nothing_seen, seen_next, Surveyed, surveyed, survey_of}
use Rattle.region_work.proofs.Unmoved.{each}
use Rattle.region_work.proofs.Numbered.{Numbered, place_numbered}
use Rattle.region_work.proofs.Slots.{nothing_written}

abbrev seen_of : ℕ → Bool → Bool → CaptionBox → Seen
seen_of o differ pending bounds = record { origin = o; differ = differ; pending = pending; bounds = bounds }

grown_fills : (b : CaptionBox) (p : Face) → (grown b p).empty ≡ false
unfolding grown later_point
grown_fills b p = by b.empty
  where
    by : (t : Bool) → (cond t (one_point p) (later_point b p)).empty ≡ false
    by true = refl
    by false = refl

differ_joins : (a b c : Bool) → (a || not b) || not c ≡ (a || not (b && c))
differ_joins true b c = refl
differ_joins false true c = refl
differ_joins false false c = refl

-- one position more, where there was one before
next_seen : (o : ℕ) (differ pending : Bool) (box : CaptionBox) (place : Place) (empty : Bool) → box.empty ≡ false
    → seen_next (seen_of o differ pending box) place empty
    ≡ seen_of o (differ || not (eqb o place.origin)) (pending || empty) (grown box place.face)
unfolding seen_next
next_seen o differ pending box place empty filled =
    ap (λ (t : Bool).
    seen_of (cond t place.origin o) (cond t differ (differ || not (eqb o place.origin))) (pending || empty) (grown box place.face)) filled

module _ (A : Arith) (table : List Float) (s : Set) where
  -- ---- what is known after positions, refused ones left out

  abbrev seen_by : Seen → Given (Work Place) → Seen
  seen_by seen (refused n) = seen
  seen_by seen (answered w) = seen_next seen w.answer (slot_empty s w.used)

  unfoldable pub seen_after : Seen → List LonLat → Seen
  seen_after seen [] = seen
  seen_after seen (p ∷ ps) = seen_after (seen_by seen (place_given A table s p)) ps

  abbrev empty_in : Given Used → Bool
  empty_in (refused n) = false
  empty_in (answered u) = slot_empty s u

  -- whether one of them uses an empty slot
  unfoldable pub any_empty : List LonLat → Bool
  any_empty [] = false
  any_empty (p ∷ ps) = empty_in (used_of (place_given A table s p)) || any_empty ps

  survey_is : (ps : List LonLat) (seen : Seen) → survey_of A table s seen ps
      ≡ and_then (first_failing (each A table s ps)) (answered (surveyed (seen_after seen ps) (points_of (each A table s ps))))
  unfolding seen_after
  survey_is [] seen = refl
  survey_is (p ∷ ps) seen = by (place_given A table s p) (place_numbered A table s p) (survey_is ps)
    where
      joined : (check : Given (Unit {0})) (v : Seen) (f : Face) (fs : List Face)
          → bind (and_then check (answered (surveyed v fs))) (λ r. answered (surveyed r.seen (f ∷ r.points)))
          ≡ and_then check (answered (surveyed v (f ∷ fs)))
      joined (answered u) v f fs = refl
      joined (refused n) v f fs = refl

      by : (g : Given (Work Place)) → Numbered g
          → ((v : Seen) → survey_of A table s v ps
          ≡ and_then (first_failing (each A table s ps)) (answered (surveyed (seen_after v ps) (points_of (each A table s ps)))))
          → (bind g λ w.
          bind (survey_of A table s (seen_next seen w.answer (slot_empty s w.used)) ps) λ r.
          answered (surveyed r.seen (w.answer.face ∷ r.points)))
          ≡ and_then (first_failing (result_of (answer_of g) ∷ each A table s ps))
          (answered (surveyed (seen_after (seen_by seen g) ps) (points_of (result_of (answer_of g) ∷ each A table s ps))))
      by (refused n) e rest = rw e.is
      by (answered w) e rest =
          ap (λ (g : Given Surveyed). bind g λ r. answered (surveyed r.seen (w.answer.face ∷ r.points))) (rest _)
          ∙ joined (first_failing (each A table s ps)) _ w.answer.face (points_of (each A table s ps))

  -- ---- all positions pass place

  -- a later one
  seen_later : (ps : List LonLat) (o : ℕ) (differ pending : Bool) (box : CaptionBox) → box.empty ≡ false → first_failing (each A table s ps) ≡ passed
      → seen_after (seen_of o differ pending box) ps
      ≡ seen_of o (differ || not (all_on o (each A table s ps))) (pending || any_empty ps) (grown_all box (points_of (each A table s ps)))
  unfolding seen_after any_empty grown_all
  seen_later [] o differ pending box filled pass = λ j. seen_of o (sym (or-false differ) j) (sym (or-false pending) j) box
  seen_later (p ∷ ps) o differ pending box filled pass =
      by (place_given A table s p) (place_numbered A table s p) (refuse_answered _ _ (first_failing (each A table s ps)) tt pass) (seen_later ps)
    where
      Later : List LonLat → Type 0
      Later qs = (o : ℕ) (differ pending : Bool) (box : CaptionBox) → box.empty ≡ false → first_failing (each A table s qs) ≡ passed
          → seen_after (seen_of o differ pending box) qs
          ≡ seen_of o (differ || not (all_on o (each A table s qs))) (pending || any_empty qs) (grown_all box (points_of (each A table s qs)))

      by : (g : Given (Work Place)) → Numbered g
          → (not (eqb (result_of (answer_of g)).refusal 0) ≡ false) × (first_failing (each A table s ps) ≡ passed) → Later ps
          → seen_after (seen_by (seen_of o differ pending box) g) ps
          ≡ seen_of o (differ || not (all_on o (result_of (answer_of g) ∷ each A table s ps))) (pending || (empty_in (used_of g) || any_empty ps))
          (grown_all box (points_of (result_of (answer_of g) ∷ each A table s ps)))
      by (refused n) e all later = absurd (true≢false (sym (ap not e.is) ∙ all.0))
      by (answered w) e all later =
          let f = w.answer.face in
          let empty = slot_empty s w.used in
          ap (λ (v : Seen). seen_after v ps) (next_seen o differ pending box w.answer empty filled)
          ∙ later o (differ || not (eqb o w.answer.origin)) (pending || empty) (grown box f) (grown_fills box f) all.1
          ∙ (λ j.
          seen_of o (differ_joins differ (eqb o w.answer.origin) (all_on o (each A table s ps)) j) (or_assoc pending empty (any_empty ps) j)
          (grown_all (grown box f) (points_of (each A table s ps))))

  -- all of them
  seen_all : (p : LonLat) (ps : List LonLat) → let rs = each A table s (p ∷ ps) in first_failing rs ≡ passed
      → seen_after nothing_seen (p ∷ ps) ≡ seen_of (first_origin rs) (not (all_on (first_origin rs) rs)) (any_empty (p ∷ ps)) (grown_all new_box (points_of rs))
  unfolding seen_after any_empty grown_all seen_next
  seen_all p ps pass = by (place_given A table s p) (place_numbered A table s p) (refuse_answered _ _ (first_failing (each A table s ps)) tt pass)
    where
      by : (g : Given (Work Place)) → Numbered g
          → (not (eqb (result_of (answer_of g)).refusal 0) ≡ false) × (first_failing (each A table s ps) ≡ passed)
          → let rs = result_of (answer_of g) ∷ each A table s ps in
          seen_after (seen_by nothing_seen g) ps
          ≡ seen_of (first_origin rs) (not (all_on (first_origin rs) rs)) (empty_in (used_of g) || any_empty ps) (grown_all new_box (points_of rs))
      by (refused n) e all = absurd (true≢false (sym (ap not e.is) ∙ all.0))
      by (answered w) e all =
          let o = w.answer.origin in
          let f = w.answer.face in
          seen_later ps o false (slot_empty s w.used) (grown new_box f) (grown_fills new_box f) all.1
          ∙ (λ j.
          seen_of o (not (sym (eq-eqb o o refl) j && all_on o (each A table s ps))) (slot_empty s w.used || any_empty ps)
          (grown_all (grown new_box f) (points_of (each A table s ps))))

  -- ---- the survey of at least one position

  -- what is known where all of them pass place
  abbrev pub known : List LonLat → Seen
  known ps =
      let rs = each A table s ps in
      seen_of (first_origin rs) (not (all_on (first_origin rs) rs)) (any_empty ps) (grown_all new_box (points_of rs))

  pub survey_known : (p : LonLat) (ps : List LonLat) → let rs = each A table s (p ∷ ps) in
      survey_of A table s nothing_seen (p ∷ ps) ≡ and_then (first_failing rs) (answered (surveyed (known (p ∷ ps)) (points_of rs)))
  survey_known p ps = survey_is (p ∷ ps) nothing_seen ∙ by (first_failing (each A table s (p ∷ ps))) refl
    where
      points : List Face
      points = points_of (each A table s (p ∷ ps))

      by : (check : Given (Unit {0})) → first_failing (each A table s (p ∷ ps)) ≡ check
          → and_then check (answered (surveyed (seen_after nothing_seen (p ∷ ps)) points)) ≡ and_then check (answered (surveyed (known (p ∷ ps)) points))
      by (answered u) e = ap (λ (v : Seen). answered (surveyed v points)) (seen_all p ps e)
      by (refused n) e = refl

  -- ---- no used slot is empty

  pub in_turn_kept : (ps : List LonLat) → any_empty ps ≡ false → (placed_in_turn A table s ps).set ≡ s
  unfolding any_empty placed_one
  in_turn_kept [] e = refl
  in_turn_kept (p ∷ ps) e =
      let none = or_parts (empty_in (used_of (place_given A table s p))) (any_empty ps) e in
      ap (λ (t : Set). (placed_in_turn A table t ps).set) (kept_by (used_of (place_given A table s p)) none.0) ∙ in_turn_kept ps none.1
    where
      kept_by : (g : Given Used) → empty_in g ≡ false → set_used A s g ≡ s
      kept_by (refused n) e = refl
      kept_by (answered u) e = nothing_written A s u e
