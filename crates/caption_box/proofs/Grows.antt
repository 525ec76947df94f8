-- What a box holds, told by the points taken in: none, and it is empty, or some, and its sides are theirs (`Holds`). One more point keeps that, whatever its
-- coordinates, since `lt` is irreflexive and transitive on all floats; and so does a list of points, with the calls' check and without (`taken_holds`,
-- `grown_holds`). Assumes nothing.
use mathlib.Core.Path.{◌≡◌, refl, sym, ◌∙◌, ap}
use mathlib.Core.Bool.{Bool, true, false, not, cond}
use mathlib.Core.Logic.{◌⊎◌, inl, inr, ⊎_elim}
use mathlib.Core.List.Memᴰ
use mathlib.Core.List.{List, [], ◌∷◌, Memᴰ}
use lib.Dec.{T, T_not, not_T}
use lib.Ieee.{Float}
use Rattle.answer.specs.Given.{Given, answered, refused, passed}
use Rattle.answer.proofs.Given.{refused_answers_nothing}
use Rattle.arithmetic.proofs.Order.{lt_irrefl, lt_trans}
use Rattle.coordinates.specs.declared.coords.Face.{Face}
use Rattle.coordinates.specs.Conversions.{check_face}
use Rattle.caption_box.specs.declared.CaptionBox.{CaptionBox}
use Rattle.caption_box.specs.Sides.{new_box, below, above, replaced, one_point, later_point, grown, box_after, taken}
use Rattle.caption_box.specs.EveryList.{taken_all, grown_all, TakenIn, x_of, y_of, Side, FourSides}

-- ---- one side

-- what a side's proof needs of "strictly beyond"
pub record Strict (beyond : Float → Float → Bool) : Type 0 where
  pub itself : (x : Float) → T (beyond x x) → ⊥
  pub through : (x y z : Float) → T (beyond x y) → T (beyond y z) → T (beyond x z)

pub below_strict : Strict below
below_strict = record { itself = lt_irrefl; through = lt_trans }

pub above_strict : Strict above
above_strict = record { itself = lt_irrefl; through = λ x y z h k. lt_trans z y x k h }

module _ (coordinate : Face → Float) (beyond : Float → Float → Bool) (strict : Strict beyond) (p : Face) where
  not_itself : (q : Face) → q ≡ p → T (not (beyond (coordinate q) (coordinate p)))
  not_itself q e = rw e (not_T (beyond (coordinate p) (coordinate p)) (strict.itself (coordinate p)))

  first_side : Side (λ q. q ≡ p) coordinate beyond (coordinate p)
  first_side = record { point = p; taken_in = refl; is_side = refl; none_beyond = not_itself }

  -- after one more point the side is that point's where it is beyond the old one, and otherwise the old one
  later_side : {In : Face → Type 0} (side : Float) → Side In coordinate beyond side
      → Side (λ q. In q ⊎ (q ≡ p)) coordinate beyond (replaced beyond side (coordinate p))
  later_side {In} side s = by_test (beyond (coordinate p) side) refl
    where
      by_test : (t : Bool) → beyond (coordinate p) side ≡ t → Side (λ q. In q ⊎ (q ≡ p)) coordinate beyond (cond t (coordinate p) side)
      by_test true e = record {
        point = p;
        taken_in = inr refl;
        is_side = refl;
        none_beyond = λ q. ⊎_elim (λ i. not_T (beyond (coordinate q) (coordinate p)) (none_past q i)) (not_itself q);
      }
        where
          -- a point beyond p would be beyond the old side
          none_past : (q : Face) → In q → T (beyond (coordinate q) (coordinate p)) → ⊥
          none_past q i h =
              T_not (beyond (coordinate q) side) (s.none_beyond q i) (strict.through (coordinate q) (coordinate p) side h (rw e tt))
      by_test false e = record {
        point = s.point;
        taken_in = inl s.taken_in;
        is_side = s.is_side;
        none_beyond = λ q. ⊎_elim (s.none_beyond q) (λ (o : q ≡ p). rw (o, e) tt);
      }

-- ---- a box

pub data Holds (In : Face → Type 0) (b : CaptionBox) : Type 0 where
  none : b.empty ≡ true → ((p : Face) → In p → ⊥) → Holds In b
  some : b.empty ≡ false → FourSides In b → Holds In b

-- the points may be told in other words
module _ {In To : Face → Type 0} (there : (p : Face) → In p → To p) (back : (p : Face) → To p → In p) where
  side_told : {coordinate : Face → Float} {beyond : Float → Float → Bool} {side : Float} → Side In coordinate beyond side → Side To coordinate beyond side
  side_told s =
      record { point = s.point; taken_in = there s.point s.taken_in; is_side = s.is_side; none_beyond = λ p i. s.none_beyond p (back p i) }

  sides_told : {b : CaptionBox} → FourSides In b → FourSides To b
  sides_told s =
      record {
        least_x = side_told s.least_x;
        greatest_x = side_told s.greatest_x;
        least_y = side_told s.least_y;
        greatest_y = side_told s.greatest_y;
      }

  pub told : {b : CaptionBox} → Holds In b → Holds To b
  told (none e n) = none e (λ p i. n p (back p i))
  told (some e s) = some e (sides_told s)

first_sides : (p : Face) → FourSides (λ q. q ≡ p) (one_point p)
first_sides p =
    record {
      least_x = first_side x_of below below_strict p;
      greatest_x = first_side x_of above above_strict p;
      least_y = first_side y_of below below_strict p;
      greatest_y = first_side y_of above above_strict p;
    }

later_sides : {In : Face → Type 0} {b : CaptionBox} (p : Face) → FourSides In b → FourSides (λ q. In q ⊎ (q ≡ p)) (later_point b p)
unfolding later_point
later_sides {b = b} p s =
    record {
      least_x = later_side x_of below below_strict p b.least_x s.least_x;
      greatest_x = later_side x_of above above_strict p b.greatest_x s.greatest_x;
      least_y = later_side y_of below below_strict p b.least_y s.least_y;
      greatest_y = later_side y_of above above_strict p b.greatest_y s.greatest_y;
    }

-- one more point
pub grows : {In : Face → Type 0} {b : CaptionBox} (p : Face) → Holds In b → Holds (λ q. In q ⊎ (q ≡ p)) (grown b p)
unfolding grown later_point
grows p (none e n) = rw e (some refl (sides_told (λ q o. inr o) (λ q. ⊎_elim (λ i. absurd (n q i)) (λ o. o)) (first_sides p)))
grows p (some e s) = rw e (some refl (later_sides p s))

pub new_holds : Holds (λ q. ⊥) new_box
new_holds = none refl (λ p i. i)

-- ---- lists of points

pub grown_holds : (In : Face → Type 0) (b : CaptionBox) (ps : List Face) → Holds In b → Holds (λ q. In q ⊎ Memᴰ q ps) (grown_all b ps)
unfolding grown_all
grown_holds In b [] h = told (λ q. inl) (λ q. ⊎_elim (λ i. i) (λ m. absurd (Memᴰ.not-nil m))) h
grown_holds In b (p ∷ ps) h = told there back (grown_holds (λ q. In q ⊎ (q ≡ p)) (grown b p) ps (grows p h))
  where
    there : (q : Face) → (In q ⊎ (q ≡ p)) ⊎ Memᴰ q ps → In q ⊎ Memᴰ q (p ∷ ps)
    there q (inl (inl i)) = inl i
    there q (inl (inr e)) = inr (Memᴰ.head e)
    there q (inr m) = inr (Memᴰ.tail m)

    back : (q : Face) → In q ⊎ Memᴰ q (p ∷ ps) → (In q ⊎ (q ≡ p)) ⊎ Memᴰ q ps
    back q (inl i) = inl (inl i)
    back q (inr m) = ⊎_elim (λ e. inl (inr e)) inr (Memᴰ.cases_cons m)

-- one more point of a call: it is taken in exactly if the check passes it
takes : {In : Face → Type 0} {b : CaptionBox} (p : Face) → Holds In b → Holds (λ q. In q ⊎ ((q ≡ p) × (check_face q ≡ passed))) (taken b p)
unfolding taken
takes {In} {b} p h = by_check (check_face p) refl
  where
    by_check : (g : Given (Unit {0})) → check_face p ≡ g → Holds (λ q. In q ⊎ ((q ≡ p) × (check_face q ≡ passed))) (box_after g b p)
    by_check (answered u) e = told (λ q. ⊎_elim inl (λ o. inr (o, ap check_face o ∙ e))) (λ q. ⊎_elim inl (λ t. inr t.0)) (grows p h)
    by_check (refused n) e =
        told (λ q. inl) (λ q. ⊎_elim (λ i. i) (λ t. refused_answers_nothing n tt (sym e ∙ ap check_face (sym t.0) ∙ t.1))) h

pub taken_holds : (In : Face → Type 0) (b : CaptionBox) (ps : List Face) → Holds In b → Holds (λ q. In q ⊎ TakenIn ps q) (taken_all b ps)
unfolding taken_all
taken_holds In b [] h = told (λ q. inl) (λ q. ⊎_elim (λ i. i) (λ t. absurd (Memᴰ.not-nil t.one_of))) h
taken_holds In b (p ∷ ps) h = told there back (taken_holds (λ q. In q ⊎ ((q ≡ p) × (check_face q ≡ passed))) (taken b p) ps (takes p h))
  where
    there : (q : Face) → (In q ⊎ ((q ≡ p) × (check_face q ≡ passed))) ⊎ TakenIn ps q → In q ⊎ TakenIn (p ∷ ps) q
    there q (inl (inl i)) = inl i
    there q (inl (inr t)) = inr record { one_of = Memᴰ.head t.0; accepted = t.1 }
    there q (inr t) = inr record { one_of = Memᴰ.tail t.one_of; accepted = t.accepted }

    back : (q : Face) → In q ⊎ TakenIn (p ∷ ps) q → (In q ⊎ ((q ≡ p) × (check_face q ≡ passed))) ⊎ TakenIn ps q
    back q (inl i) = inl (inl i)
    back q (inr t) =
        ⊎_elim (λ o. inl (inr (o, t.accepted))) (λ m. inr record { one_of = m; accepted = t.accepted }) (Memᴰ.cases_cons t.one_of)
