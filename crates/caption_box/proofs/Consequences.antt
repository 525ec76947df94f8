-- What a reader may try on the box: a refused point changes nothing, wherever in a list it stands; a first point is all four sides; a point taken in twice is
-- one taken in once, on every box; of two zeros the first stays, and so does a NaN; every coordinate lies between its sides; a list and its reverse have the
-- same sides. Assumes nothing.
use mathlib.Core.Path.{◌≡◌, refl, ap}
use Prim.Native.Nat.{ℕ}
use mathlib.Core.Bool.{Bool, true, false, not, cond, ◌||◌}
use mathlib.Core.List.{List, [], ◌∷◌, ◌++◌, reverse, reverse_perm}
use lib.Dec.{T}
use lib.IntN.{pos}
use lib.Ieee.{Float, nan, inf, fin, lt, eq, le}
use Rattle.answer.specs.Given.{Given, refused, passed}
use Rattle.arithmetic.proofs.Order.{eq_of_not_lt}
use Rattle.coordinates.specs.declared.coords.Face.{Face}
use Rattle.coordinates.specs.Conversions.{check_face}
use Rattle.caption_box.specs.declared.CaptionBox.{CaptionBox}
use Rattle.caption_box.specs.Sides.{new_box, below, above, replaced, one_point, later_point, grown, box_after, taken}
use Rattle.caption_box.specs.EveryList.{taken_all, box_of, TakenIn, x_of, y_of, SameSides}
use Rattle.caption_box.proofs.Order.{x_below, y_below, side_below}
use Rattle.caption_box.proofs.Theorem.{every_list}

-- ---- refused points

pub refused_leaves : (b : CaptionBox) (p : Face) (n : ℕ) → check_face p ≡ refused n → taken b p ≡ b
unfolding taken
refused_leaves b p n e = ap (λ (g : Given (Unit {0})). box_after g b p) e

pub refused_anywhere : (b : CaptionBox) (ps qs : List Face) (p : Face) (n : ℕ) → check_face p ≡ refused n
    → taken_all b (ps ++ (p ∷ qs)) ≡ taken_all b (ps ++ qs)
unfolding taken_all
refused_anywhere b [] qs p n e = ap (λ (c : CaptionBox). taken_all c qs) (refused_leaves b p n e)
refused_anywhere b (q ∷ ps) qs p n e = refused_anywhere (taken b q) ps qs p n e

-- ---- the first point, and one again

pub first_point : (p : Face) → check_face p ≡ passed → box_of (p ∷ []) ≡ one_point p
unfolding taken_all taken grown
first_point p e = ap (λ (g : Given (Unit {0})). box_after g new_box p) e

module _ (beyond : Float → Float → Bool) where
  replaced_same : (v : Float) → replaced beyond v v ≡ v
  replaced_same v = by_test (beyond v v)
    where
      by_test : (t : Bool) → cond t v v ≡ v
      by_test true = refl
      by_test false = refl

  replaced_again : (side v : Float) → replaced beyond (replaced beyond side v) v ≡ replaced beyond side v
  replaced_again side v = by_test (beyond v side) refl
    where
      by_test : (t : Bool) → beyond v side ≡ t → replaced beyond (cond t v side) v ≡ cond t v side
      by_test true e = replaced_same v
      by_test false e = rw e

pub taken_twice : (b : CaptionBox) (p : Face) → grown (grown b p) p ≡ grown b p
unfolding grown later_point
taken_twice b p = by_empty b.empty
  where
    by_empty : (t : Bool) → grown (cond t (one_point p) (later_point b p)) p ≡ cond t (one_point p) (later_point b p)
    by_empty true = simp replaced_same
    by_empty false = simp replaced_again

-- ---- zeros and NaN

abbrev +0 : Float
+0 = fin false 0 (pos 0)

abbrev −0 : Float
−0 = fin true 0 (pos 0)

-- "exactly when its coordinate is strictly beyond it": −0 never replaces +0, nor the reverse
pub record ZerosStay : Type 0 where
  pub least_plus : replaced below +0 −0 ≡ +0
  pub least_minus : replaced below −0 +0 ≡ −0
  pub greatest_plus : replaced above +0 −0 ≡ +0
  pub greatest_minus : replaced above −0 +0 ≡ −0

pub zeros_stay : ZerosStay
unfolding lt
zeros_stay = record { least_plus = refl; least_minus = refl; greatest_plus = refl; greatest_minus = refl }

pub least_nan_stays : (v : Float) → replaced below nan v ≡ nan
unfolding lt
least_nan_stays nan = refl
least_nan_stays (inf s) = refl
least_nan_stays (fin s m e) = refl

pub greatest_nan_stays : (v : Float) → replaced above nan v ≡ nan
unfolding lt
greatest_nan_stays v = refl

-- ---- between the sides

le_of_not_lt : (x y : Float) → T (lt x (inf false)) → T (lt y (inf false)) → T (not (lt y x)) → T (le x y)
unfolding le
le_of_not_lt x y h k i = by_test (lt x y) refl
  where
    by_test : (t : Bool) → lt x y ≡ t → T (t || eq x y)
    by_test true e = tt
    by_test false e = eq_of_not_lt x y h k (rw e tt) i

-- a point taken in lies between the sides: x and y, each from the least to the greatest
pub record Between (b : CaptionBox) (p : Face) : Type 0 where
  pub from_x : T (le b.least_x (x_of p))
  pub to_x : T (le (x_of p) b.greatest_x)
  pub from_y : T (le b.least_y (y_of p))
  pub to_y : T (le (y_of p) b.greatest_y)

pub between : (ps : List Face) → (box_of ps).empty ≡ false → (p : Face) → TakenIn ps p → Between (box_of ps) p
between ps e p t =
    let s = every_list.sides ps e in
    let x = x_below p t.accepted in
    let y = y_below p t.accepted in
    record {
      from_x = le_of_not_lt (box_of ps).least_x (x_of p) (side_below x_of x_below s.least_x) x (s.least_x.none_beyond p t);
      to_x = le_of_not_lt (x_of p) (box_of ps).greatest_x x (side_below x_of x_below s.greatest_x) (s.greatest_x.none_beyond p t);
      from_y = le_of_not_lt (box_of ps).least_y (y_of p) (side_below y_of y_below s.least_y) y (s.least_y.none_beyond p t);
      to_y = le_of_not_lt (y_of p) (box_of ps).greatest_y y (side_below y_of y_below s.greatest_y) (s.greatest_y.none_beyond p t);
    }

-- ---- an order far from the list's own

pub reversed : (ps : List Face) → SameSides (box_of (reverse ps)) (box_of ps)
reversed ps = every_list.any_order (reverse ps) ps (reverse_perm ps)
