-- Two lists with the same points have boxes with the same sides: each list's side is a coordinate of the other, so neither is beyond the other, and two finite
-- numbers of which neither is less are equal. Assumes nothing.
use mathlib.Core.Path.{◌≡◌, sym, ◌∙◌}
use mathlib.Core.Bool.{Bool, true, false, not, true≢false}
use mathlib.Core.Logic.{∥∥₁_elim}
use mathlib.Core.List.Perm
use mathlib.Core.List.{List, Perm}
use lib.Dec.{T, T_prop}
use lib.Ieee.{Float, nan, inf, fin, lt, eq}
use Rattle.answer.specs.Given.{passed}
use Rattle.answer.specs.Number.{is_finite, check_number}
use Rattle.answer.proofs.Given.{refuse_answered, then_answered}
use Rattle.arithmetic.specs.Numbers.{4·0}
use Rattle.arithmetic.proofs.Order.{eq_of_not_lt}
use Rattle.coordinates.specs.declared.coords.Face.{Face}
use Rattle.coordinates.specs.Conversions.{check_face}
use Rattle.caption_box.specs.declared.CaptionBox.{CaptionBox}
use Rattle.caption_box.specs.Sides.{below, above}
use Rattle.caption_box.specs.EveryList.{TakenIn, x_of, y_of, Side, FourSides, SameSides}
use Rattle.caption_box.proofs.Grows.{Holds, none, some}

-- ---- what the check passes is below +infinity, and no NaN

finite_below : (x : Float) → not (is_finite x) ≡ false → T (lt x (inf false))
unfolding is_finite lt
finite_below nan e = absurd (true≢false e)
finite_below (inf s) e = absurd (true≢false e)
finite_below (fin s m d) e = tt

passed_below : (x limit : Float) → check_number x limit ≡ passed → T (lt x (inf false))
unfolding check_number
passed_below x limit e = finite_below x (refuse_answered (not (is_finite x)) 5 _ tt e).0

module _ (p : Face) (e : check_face p ≡ passed) where
  pub x_below : T (lt (x_of p) (inf false))
  unfolding check_face
  x_below = passed_below (x_of p) 4·0 (then_answered (check_number (x_of p) 4·0) (check_number (y_of p) 4·0) tt e).0

  pub y_below : T (lt (y_of p) (inf false))
  unfolding check_face
  y_below = passed_below (y_of p) 4·0 (then_answered (check_number (x_of p) 4·0) (check_number (y_of p) 4·0) tt e).1

-- ---- a point taken in is taken in from the rearranged list

moved : (ps qs : List Face) → Perm ps qs → (p : Face) → TakenIn ps p → {X : Type 0} → IsProp X → (TakenIn qs p → X) → X
moved ps qs perm p t one k = ∥∥₁_elim ((Perm.mem_iff perm).0 ∣ t.one_of ∣₁) one (λ m. k record { one_of = m; accepted = t.accepted })

-- ---- one side of both boxes

module _ (coordinate : Face → Float) (is_below : (p : Face) → check_face p ≡ passed → T (lt (coordinate p) (inf false))) where
  pub side_below : {ps : List Face} {beyond : Float → Float → Bool} {side : Float} → Side (TakenIn ps) coordinate beyond side → T (lt side (inf false))
  side_below s = rw s.is_side (is_below s.point s.taken_in.accepted)

  not_beyond : (ps qs : List Face) → Perm ps qs → (beyond : Float → Float → Bool) (side other : Float)
      → Side (TakenIn ps) coordinate beyond side → Side (TakenIn qs) coordinate beyond other → T (not (beyond side other))
  not_beyond ps qs perm beyond side other s o =
      moved ps qs perm s.point s.taken_in (T_prop (not (beyond side other))) (λ t. rw s.is_side (o.none_beyond s.point t))

  module _ (ps qs : List Face) (perm : Perm ps qs) (side other : Float) where
    least_equal : Side (TakenIn ps) coordinate below side → Side (TakenIn qs) coordinate below other → T (eq side other)
    least_equal s o =
        eq_of_not_lt side other (side_below s) (side_below o)
        (not_beyond ps qs perm below side other s o)
        (not_beyond qs ps (Perm.symm perm) below other side o s)

    greatest_equal : Side (TakenIn ps) coordinate above side → Side (TakenIn qs) coordinate above other → T (eq side other)
    greatest_equal s o =
        eq_of_not_lt side other (side_below s) (side_below o)
        (not_beyond qs ps (Perm.symm perm) above other side o s)
        (not_beyond ps qs perm above side other s o)

-- ---- both boxes

module _ (ps qs : List Face) (perm : Perm ps qs) (b c : CaptionBox) where
  both_empty : b.empty ≡ true → c.empty ≡ true → SameSides b c
  both_empty e o =
      record {
        alike_empty = e ∙ sym o;
        least_x = λ f. absurd (true≢false (sym e ∙ f));
        greatest_x = λ f. absurd (true≢false (sym e ∙ f));
        least_y = λ f. absurd (true≢false (sym e ∙ f));
        greatest_y = λ f. absurd (true≢false (sym e ∙ f));
      }

  both_filled : b.empty ≡ false → c.empty ≡ false → FourSides (TakenIn ps) b → FourSides (TakenIn qs) c → SameSides b c
  both_filled e o s t =
      record {
        alike_empty = e ∙ sym o;
        least_x = λ f. least_equal x_of x_below ps qs perm b.least_x c.least_x s.least_x t.least_x;
        greatest_x = λ f. greatest_equal x_of x_below ps qs perm b.greatest_x c.greatest_x s.greatest_x t.greatest_x;
        least_y = λ f. least_equal y_of y_below ps qs perm b.least_y c.least_y s.least_y t.least_y;
        greatest_y = λ f. greatest_equal y_of y_below ps qs perm b.greatest_y c.greatest_y s.greatest_y t.greatest_y;
      }

  -- one list has a point and the other none
  apart : {X : Type 0} (p : Face) → TakenIn ps p → ((q : Face) → TakenIn qs q → ⊥) → X
  apart p t n = absurd (moved ps qs perm p t (λ x y. absurd x) (n p))

pub same_sides : (ps qs : List Face) → Perm ps qs → (b c : CaptionBox) → Holds (TakenIn ps) b → Holds (TakenIn qs) c → SameSides b c
same_sides ps qs perm b c (none e n) (none o m) = both_empty ps qs perm b c e o
same_sides ps qs perm b c (none e n) (some o t) = apart qs ps (Perm.symm perm) c b t.least_x.point t.least_x.taken_in n
same_sides ps qs perm b c (some e s) (none o m) = apart ps qs perm b c s.least_x.point s.least_x.taken_in m
same_sides ps qs perm b c (some e s) (some o t) = both_filled ps qs perm b c e o s t
