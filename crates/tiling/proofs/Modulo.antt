-- Whole numbers mod 10: the index lies in 0..9 for every gamma; ten more changes nothing; the index of a value from its sign and its whole
-- part, or what is left of it by 10; and floor, cut to a whole number, is the whole number that it stands for. Assumes nothing.
use mathlib.Core.Path.{◌≡◌, refl, sym, ap, ◌∙◌, subst}
use Prim.Native.Nat.{ℕ, zero, suc, ◌-◌, ◌*◌, ◌/◌, ◌%◌, ◌^◌, ◌<◌}
use native.Mathlib.Nat.{mod-lt, lt_trans, div-lt_iff_lt-mul, mul-div_cancel}
use native.Mathlib.Omega.{arith}
use mathlib.Core.Bool.{Bool, true, false, cond, false≢true, true≢false}
use borrow.Author.Tests.{ltb-true, ltb-false}
use lib.IntN.{ℤ, pos, negsuc, neg_ℤ, ◌+ℤ◌}
use lib.Arith.{mod-mul, digits_div}
use lib.Dec.{T, ltb, lit<}
use lib.Pow.{pow_pos}
use lib.Ieee.{Float, nan, inf, fin, binary64, up, down, rem, lt, of_bits, to_unsigned, fits}
use lib.Ieee.Fits.{down_pos}
use lib.Ieee.Nearest.{div_same}
use lib.Ieee.Positive.{num, den, den_pos}
use Rattle.answer.specs.Number.{is_finite}
use Rattle.arithmetic.specs.Arith.{Arith, ieee}
use Rattle.arithmetic.proofs.Compared.{cut_asks, cut_value}
use Rattle.arithmetic.proofs.Remainder.{rem_exact}
use Rattle.arithmetic.proofs.Units.{Units, rise, count}
use Rattle.elementary.specs.Signs.{abs, negative}
use Rattle.elementary.specs.Whole.{signed, floor_size, floor, floorℤ}
use Rattle.elementary.proofs.Values.{floor_sized}
use Rattle.coordinates.specs.declared.base.Radians.{Radians}
use Rattle.tiling.specs.Index.{modulo10, triangle_index}
use Rattle.tiling.specs.Cut.{as_whole}

-- ---- whole numbers

below_10 : (z : ℤ) → modulo10 z < 10
unfolding modulo10
below_10 (pos k) = omega arith
below_10 (negsuc k) = omega arith

-- the triangle index lies in 0..9, for every gamma, also a NaN and the infinities
pub index_below_10 : (A : Arith) (gamma : Radians) → triangle_index A gamma < 10
unfolding triangle_index
index_below_10 A gamma = below_10 _

pub ten_more : (z : ℤ) → modulo10 (z +ℤ pos 10) ≡ modulo10 z
unfolding modulo10
ten_more (pos k) = omega arith
ten_more (negsuc k) = go (ltb 10 (suc k)) refl
  where
    go : (b : Bool) → ltb 10 (suc k) ≡ b → modulo10 (cond b (negsuc (suc k - 11)) (pos (10 - suc k))) ≡ 9 - k % 10
    go true e = omega (arith, ltb-true 10 (suc k) e)
    go false e = omega (arith, ltb-false 10 (suc k) e)

pub minus_modulo : (k : ℕ) → (10 - k % 10) % 10 ≡ modulo10 (neg_ℤ (pos k))
unfolding modulo10
minus_modulo zero = refl
minus_modulo (suc k) = omega arith

pub plus_modulo : (k : ℕ) → k % 10 ≡ modulo10 (pos k)
unfolding modulo10
plus_modulo k = refl

-- only what is left by 10 counts
same_modulo : (s : Bool) (j k : ℕ) → j % 10 ≡ k % 10 → modulo10 (signed s j) ≡ modulo10 (signed s k)
same_modulo true j k e = sym (minus_modulo j) ∙ ap (λ r. (10 - r) % 10) e ∙ minus_modulo k
same_modulo false j k e = sym (plus_modulo j) ∙ e ∙ plus_modulo k

-- ---- values

whole_is : (x : Float) → signed (negative x) (num x / den x) ≡ as_whole x
unfolding negative as_whole
whole_is nan = refl
whole_is (inf true) = refl
whole_is (inf false) = refl
whole_is (fin s m e) = refl

-- from the sign of x and a number that has the last digit of its whole part
pub modulo_is : (x : Float) (s : Bool) (k : ℕ) → s ≡ negative x → k % 10 ≡ num x / den x % 10 → modulo10 (signed s k) ≡ modulo10 (as_whole x)
modulo_is x s k e h = same_modulo s k (num x / den x) h ∙ ap (λ b. modulo10 (signed b (num x / den x))) e ∙ ap modulo10 (whole_is x)

pub not_finite : (x : Float) → is_finite x ≡ false → 0 ≡ modulo10 (as_whole x)
unfolding is_finite as_whole modulo10
not_finite nan f = refl
not_finite (inf s) f = refl
not_finite (fin s m e) f = absurd (true≢false f)

pub floor_cut : (x : Float) → T (fits binary64 x) → as_whole (floor ieee x) ≡ floorℤ x
unfolding floor as_whole floorℤ negative
floor_cut nan h = refl
floor_cut (inf s) h = refl
floor_cut (fin s m e) h =
    let r = floor ieee (fin s m e) in
    let z = floor_sized (fin s m e) h tt in
    let size : num r / den r ≡ floor_size s (m * up e) (down e) = ap (λ n. n / den r) z.size ∙ mul-div_cancel _ (den_pos r) in
    sym (whole_is r) ∙ λ i. signed (z.like.sign i) (size i)

-- ---- what the size of a finite value leaves by 10.0: what the cut asks of it, and that it gives the last digit of the whole part

abbrev 10·0 : Float
10·0 = of_bits binary64 0x4024_0000_0000_0000

pub record LastDigit (x y : Float) : Type 0 where
  pub asks : T (lt (fin true 1 (pos 0)) y) × T (lt y (fin false 1 (pos 64)))
  pub is : to_unsigned 64 y ≡ num x / den x % 10

-- the units of a value, cut to whole numbers after the remainder or before
cut_digit : (n l : ℕ) → 0 < l → n % (10 * l) / l ≡ n / l % 10
cut_digit n l L = ap (λ r. r / l) (mod-mul n (lit< tt) L) ∙ digits_div (n / l % 10) (mod-lt n L)

digit_at : (s : Bool) (m : ℕ) (e : ℤ) → T (fits binary64 (fin false m e)) → LastDigit (fin s m e) (rem binary64 (fin false m e) 10·0)
unfolding of_bits fits
digit_at s m e h =
    let r = rem binary64 (fin false m e) 10·0 in
    let n = m * 2 ^ rise binary64 e in
    let l = 2 ^ 1074 in
    let L : 0 < l = pow_pos 1074 in
    let v : Units binary64 r false (n % (10 * l)) = rem_exact binary64 false m e false 5 (pos 1) h tt (lit< tt) in
    let same : m * up e / down e ≡ n / l = div_same (m * up e) (down e) n l (down_pos e) L (count binary64 false m e h).1 in
    let d : n % (10 * l) / l ≡ m * up e / down e % 10 = cut_digit n l L ∙ ap (λ q. q % 10) (sym same) in
    let b : n % (10 * l) < 2 ^ 64 * l = lt_trans (mod-lt n (lit< tt)) (lit< tt) in
    record { asks = cut_asks r (n % (10 * l)) l L v b; is = cut_value 64 r (n % (10 * l)) l L v ((div-lt_iff_lt-mul L).1 b) ∙ d }

pub last_digit : (x a : Float) → T (fits binary64 a) → is_finite x ≡ true → a ≡ abs x → LastDigit x (rem binary64 a 10·0)
last_digit x a h f e = subst (λ y. LastDigit x (rem binary64 y 10·0)) (sym e) (go x f (subst (λ y. T (fits binary64 y)) e h))
  where
    go : (x : Float) → is_finite x ≡ true → T (fits binary64 (abs x)) → LastDigit x (rem binary64 (abs x) 10·0)
    go nan f h = absurd (false≢true (unfold is_finite in f))
    go (inf s) f h = absurd (false≢true (unfold is_finite in f))
    go (fin s m e) f h = unfold abs in digit_at s m e h
