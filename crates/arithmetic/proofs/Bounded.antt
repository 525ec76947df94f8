-- `Bounded x B`: x is NaN, infinite, or at most B in size. Where a sum, a difference, a product or a quotient is finite, so were its operands;
-- so the laws of `Bounds` carry it through every formula, for all floats. And what is not negative, and what a root and a quotient of such come to.
-- Assumes nothing.
use mathlib.Core.Path.{◌≡◌}
use Prim.Native.Nat.{ℕ, zero, suc, ◌+◌, ◌*◌, ◌≤◌, ◌<◌}
use native.Mathlib.Nat.{mul-pos, zero-lt-suc}
use native.Mathlib.Omega.{arith}
use mathlib.Core.Bool.{Bool, true, false, cond}
use lib.IntN.{ℤ}
use lib.Dec.{T, ltb, eqb, lt→ltb, eqb-suc-zero, lit≤}
use lib.Ieee.{Float, nan, inf, fin, Format, binary64, up, down, unlike, round, neg, sum, add, sub, mul, div, lt, fits}
use lib.Ieee.Fits.{up_pos, down_pos}
use lib.Ieee.Positive.{num, positive}
use lib.Ieee.Scale.{finite}
use Rattle.arithmetic.specs.Numbers.{1·0}
use Rattle.arithmetic.specs.Sqrt.{sqrt}
use Rattle.arithmetic.proofs.Bounds.{Within, within, within_finite, clear, own, wider, round_clear, round_within, neg_within, mul_within, add_within, div_within, largest, within_largest}
use Rattle.arithmetic.proofs.Ieee754.{sqrt_is_root}

abbrev pub Bounded : Float → Float → Type 0
Bounded x B = T (finite x) → Within x B

pub bounded : {x B : Float} → Within x B → Bounded x B
bounded w t = w

pub bounded_nan : (B : Float) → Bounded nan B
bounded_nan B t = absurd t

pub broader : {x B C : Float} → Bounded x B → Within B C → Bounded x C
broader h w t = wider (h t) w

-- ---- a finite result has finite operands

neg_finite : (x : Float) → T (finite (neg x)) → T (finite x)
unfolding neg
neg_finite nan t = t
neg_finite (inf s) t = t
neg_finite (fin s m e) t = tt

pub neg_bounded : {x B : Float} → Bounded x B → Bounded (neg x) B
neg_bounded {x} h t = neg_within (h (neg_finite x t))

module _ (f : Format) where
  add_finite : (x y : Float) → T (finite (add f x y)) → T (finite x) × T (finite y)
  unfolding add
  add_finite nan y t = absurd t
  add_finite (inf s) nan t = absurd t
  add_finite (inf true) (inf true) t = absurd t
  add_finite (inf true) (inf false) t = absurd t
  add_finite (inf false) (inf true) t = absurd t
  add_finite (inf false) (inf false) t = absurd t
  add_finite (inf s) (fin u n d) t = absurd t
  add_finite (fin s m e) nan t = absurd t
  add_finite (fin s m e) (inf u) t = absurd t
  add_finite (fin s m e) (fin u n d) t = (tt, tt)

  never : (b s : Bool) → T (finite (cond b nan (inf s))) → ⊥
  never true s t = t
  never false s t = t

  mul_finite : (x y : Float) → T (finite (mul f x y)) → T (finite x) × T (finite y)
  unfolding mul
  mul_finite nan y t = absurd t
  mul_finite (inf s) nan t = absurd t
  mul_finite (inf s) (inf u) t = absurd t
  mul_finite (inf s) (fin u n d) t = absurd (never (eqb n 0) (unlike s u) t)
  mul_finite (fin s m e) nan t = absurd t
  mul_finite (fin s m e) (inf u) t = absurd (never (eqb m 0) (unlike s u) t)
  mul_finite (fin s m e) (fin u n d) t = (tt, tt)

  -- the divisor may be infinite
  div_finite : (x y : Float) → T (finite (div f x y)) → T (finite x)
  unfolding div
  div_finite nan y t = absurd t
  div_finite (inf s) nan t = absurd t
  div_finite (inf s) (inf u) t = absurd t
  div_finite (inf s) (fin u n d) t = absurd t
  div_finite (fin s m e) y t = tt

  pub add_bounded : {x y B C : Float} → Bounded x B → Bounded y C → T (finite (add f B C)) → Bounded (add f x y) (add f B C)
  add_bounded {x} {y} h j F t = let o = add_finite x y t in add_within f (h o.0) (j o.1) F

  pub sub_bounded : {x y B C : Float} → Bounded x B → Bounded y C → T (finite (add f B C)) → Bounded (sub f x y) (add f B C)
  unfolding sub
  sub_bounded h j F = add_bounded h (neg_bounded j) F

  pub mul_bounded : {x y B C : Float} → Bounded x B → Bounded y C → T (finite (mul f B C)) → Bounded (mul f x y) (mul f B C)
  mul_bounded {x} {y} h j F t = let o = mul_finite x y t in mul_within f (h o.0) (j o.1) F

  -- by a divisor that is C at least
  pub div_bounded : {x y B C : Float} → Bounded x B → Within C y → T (clear C) → T (finite (div f B C)) → Bounded (div f x y) (div f B C)
  div_bounded {x} {y} h w c F t = div_within f (h (div_finite x y t)) w c F

  -- ---- what is not negative

  pub square_clear : (x : Float) → T (finite x) → T (clear (mul f x x))
  unfolding mul
  square_clear nan t = absurd t
  square_clear (inf s) t = absurd t
  square_clear (fin true m e) t = round_clear f (m * up e * (m * up e)) (down e * down e)
  square_clear (fin false m e) t = round_clear f (m * up e * (m * up e)) (down e * down e)

  pub add_clear : (x y : Float) → T (clear x) → T (clear y) → T (finite x) → T (finite y) → T (clear (add f x y))
  unfolding add sum
  add_clear nan y c d t u = absurd t
  add_clear (inf s) y c d t u = absurd t
  add_clear (fin true m e) y c d t u = absurd c
  add_clear (fin false m e) nan c d t u = absurd u
  add_clear (fin false m e) (inf s) c d t u = absurd u
  add_clear (fin false m e) (fin true n g) c d t u = absurd d
  add_clear (fin false m e) (fin false n g) c d t u = round_clear f (m * up e * down g + n * up g * down e) (down e * down g)

  -- a / b is at most 1 for an a that is at most b, neither negative, and b not 0
  pub div_one : {a b : Float} → Within a b → (num b ≡ 0 → ⊥) → T (finite (round f false 1 1)) → Within (div f a b) (round f false 1 1)
  unfolding div
  div_one (within {s = s} {m = m} {n = zero} {e = e} {d = d} h) N F = absurd (N (omega arith))
  div_one (within {s = s} {m = m} {n = suc n} {e = e} {d = d} h) N F =
      rw eqb-suc-zero
      (let above_zero : 0 < suc n * up d * down e = mul-pos (mul-pos (zero-lt-suc n) (up_pos d)) (down_pos e) in
      round_within f (unlike s false) (m * up e * down d) (suc n * up d * down e) 1 1 above_zero (lit≤ tt) (omega (arith, h)) F)

-- 1 + r is 1 at least
largest_plus : T (finite (add binary64 1·0 largest))
unfolding add
largest_plus = tt

unit_plus : (m : ℕ) (e : ℤ) → T (finite (add binary64 1·0 (fin false m e))) → Within 1·0 (add binary64 1·0 (fin false m e))
unfolding add sum
unit_plus m e F =
    let a = 1 * 1 * down e + m * up e * 1 in
    let c = 1 * down e in
    let C : 0 < c = mul-pos (lit≤ tt) (down_pos e) in
    let l : 1 * c ≤ a * 1 = omega arith in
    let w : Within (round binary64 false 1 1) (round binary64 false a c) = round_within binary64 false 1 1 a c (lit≤ tt) C l F in
    w

pub one_plus : (r : Float) → T (fits binary64 r) → T (clear r) → T (finite r) → Within 1·0 (add binary64 1·0 r)
one_plus nan h c t = absurd t
one_plus (inf s) h c t = absurd t
one_plus (fin true m e) h c t = absurd c
one_plus (fin false m e) h c t = unit_plus m e (within_finite (add_within binary64 (own 1·0 tt tt) (within_largest (fin false m e) h tt) largest_plus))

pub root_clear : (x : Float) → T (fits binary64 x) → T (clear x) → T (finite x) → T (clear (sqrt x)) × T (finite (sqrt x))
root_clear nan h c t = absurd t
root_clear (inf s) h c t = absurd t
root_clear (fin true m e) h c t = absurd c
root_clear (fin false zero e) h c t = unfold sqrt in (tt, tt)
root_clear (fin false (suc m) e) h c t = at (sqrt (fin false (suc m) e)) (sqrt_is_root (fin false (suc m) e) h (lt→ltb 0 (suc m) (zero-lt-suc m))).above_zero
  where
    at : (r : Float) → T (positive r) → T (clear r) × T (finite r)
    at nan p = absurd p
    at (inf s) p = absurd p
    at (fin true n d) p = absurd p
    at (fin false n d) p = (tt, tt)
