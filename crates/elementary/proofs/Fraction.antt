-- Whether a value has a fraction, by the tests that `floor` and `round` make: none from 2 ^ 52 on, and none where the whole number that
-- they cut it to equals it. What they give then, and otherwise. Assumes nothing.
use Rattle.std.proofs.Common.{◌≡◌, ℕ, zero, suc, ◌+◌, ◌-◌, ◌*◌, ◌/◌, ◌%◌, ◌^◌, ◌<◌, ◌≤◌, Bool, true, false, not, ◌&&◌, T, eqb, ℤ, pos, negsuc, sym, refl, ap, ◌∙◌, subst, true≢false, lt_of_lt_of_le, le_of_suc-le-suc, mul-le-mul_right, mod-lt, mul_comm, div-lt_iff_lt-mul, div-add-mod', mul-one, arith, lit<, lit≤, eqb→eq, nltb→le, T_not, pow_mono, ltb-true, le-ltb, lt-ltb, eq-eqb, ne_eqb}
use native.Mathlib.Nat.{mod-one, zero-mod, mul-mod_left, add-div_right, div-div-eq-div-mul}
use mathlib.Core.Bool.{false≢true}
use borrow.Author.Tests.{not-false}
use lib.Arith.{digits_div}
use lib.Ieee.{Float, nan, inf, fin, binary64, up, down, round, add, lt, eq, of_int, of_bits, to_unsigned, fits}
use lib.Ieee.Back.{round_whole as float-of-whole}
use lib.Ieee.Exact.{HasValue}
use lib.Ieee.Fits.{eq→eqb, and_i, and_l, down_pos}
use lib.Ieee.Positive.{num, den, den_pos}
use Rattle.arithmetic.specs.Arith.{ieee}
use Rattle.arithmetic.proofs.Compared.{eq_values, cut_asks, cut_value}
use Rattle.arithmetic.proofs.Rounding.{double_exact}
use Rattle.arithmetic.proofs.Units.{fitting}
use Rattle.elementary.specs.Signs.{abs, negative}
use Rattle.elementary.specs.Whole.{floor_size, round_size, floor}
use Rattle.elementary.specs.Whole.{round as roundAway}

-- ---- the definitions, by whether there is a fraction

abbrev pub Fraction : Float → Type 0
Fraction x = num x % den x ≡ 0 → ⊥

pub floor_whole : (x : Float) → num x % den x ≡ 0 → x ≡ floor ieee x
unfolding floor
floor_whole nan z = refl
floor_whole (inf s) z = refl
floor_whole (fin s m e) z = rw (eq-eqb (m * up e % down e) 0 z, floor)

pub floor_part : (x : Float) (s : Bool) (k : ℕ) → Fraction x → negative x ≡ s → k ≡ floor_size s (num x) (den x) → round binary64 s k 1 ≡ floor ieee x
unfolding floor negative
floor_part nan s k z n q = absurd (z refl)
floor_part (inf t) s k z n q = absurd (z refl)
floor_part (fin t m e) s k z n q = rw (ne_eqb (m * up e % down e) 0 z, floor, q, n)

pub round_whole : (x : Float) → num x % den x ≡ 0 → x ≡ roundAway ieee x
unfolding roundAway
round_whole nan z = refl
round_whole (inf s) z = refl
round_whole (fin s m e) z = rw (eq-eqb (m * up e % down e) 0 z, roundAway)

pub round_part : (x : Float) (s : Bool) (k : ℕ) → Fraction x → negative x ≡ s → k ≡ round_size (num x) (den x) → round binary64 s k 1 ≡ roundAway ieee x
unfolding roundAway negative
round_part nan s k z n q = absurd (z refl)
round_part (inf t) s k z n q = absurd (z refl)
round_part (fin t m e) s k z n q = rw (ne_eqb (m * up e % down e) 0 z, roundAway, q, n)

-- ---- the tests

abbrev pub 2^52 : Float
2^52 = fin false 1 (pos 52)

large_at : (x : Float) → T (fits binary64 x) → T (not (lt (abs x) 2^52)) → num x % den x ≡ 0
unfolding lt abs
large_at nan h l = refl
large_at (inf s) h l = refl
large_at (fin s m (pos k)) h l = mod-one (m * 2 ^ k)
large_at (fin s m (negsuc k)) h l =
    let g : 2 ^ 52 * 2 ^ suc k ≤ m * 1 * 1 = nltb→le (m * 1 * 1) (2 ^ 52 * 2 ^ suc k) l in
    let p : 2 ^ 1 ≤ 2 ^ suc k = pow_mono {i = 1} {j = suc k} (omega arith) in
    absurd (omega (arith, (fitting binary64 s m (negsuc k) h).small))

pub large_whole : (x a : Float) → T (fits binary64 x) → a ≡ abs x → not (lt a 2^52) ≡ true → num x % den x ≡ 0
large_whole x a h e l = large_at x h (subst (λ y. T (not (lt y 2^52))) e (rw l tt))

-- a is the size of x, n / d, and below 2 ^ 52
pub record Below (x a : Float) : Type 0 where
  pub value : HasValue a false (num x) (den x)
  pub small : num x < 2 ^ 52 * den x

below_at : (x : Float) → lt (abs x) 2^52 ≡ true → Below x (abs x)
unfolding lt abs
below_at nan l = absurd (false≢true l)
below_at (inf s) l = absurd (false≢true l)
below_at (fin s m e) l =
    let g : m * up e * 1 < 2 ^ 52 * down e = ltb-true (m * up e * 1) (2 ^ 52 * down e) l in
    record { value = (refl, refl); small = omega arith }

pub below : (x a : Float) → a ≡ abs x → not (lt a 2^52) ≡ false → Below x a
below x a e l = subst (Below x) (sym e) (below_at x (ap (λ y. lt y 2^52) (sym e) ∙ not-false (lt a 2^52) l))

-- what has a fraction is below 2 ^ 52
pub fraction_small : (x : Float) → T (fits binary64 x) → Fraction x → num x < 2 ^ 52 * den x
fraction_small x h z = go (lt (abs x) 2^52) refl
  where
    go : (b : Bool) → lt (abs x) 2^52 ≡ b → num x < 2 ^ 52 * den x
    go true e = (below_at x e).small
    go false e = absurd (z (large_at x h (rw e tt)))

-- k, a whole number that the format holds, equals the size or not
module _ (x a : Float) (k : ℕ) (b : Below x a) (K : k ≤ 2 ^ 53) where
  test : eq (of_int binary64 (pos k)) a ≡ (eqb (k * den x) (num x * 1) && true)
  unfolding of_int
  test = eq_values false false k 1 (num x) (den x) (lit< tt) (den_pos x) (of_int binary64 (pos k)) a (float-of-whole binary64 false k K) b.value

  pub equal : eq (of_int binary64 (pos k)) a ≡ true → num x % den x ≡ 0
  equal e =
      let h : k * den x ≡ num x * 1 = eqb→eq (k * den x) (num x * 1) (and_l (eqb (k * den x) (num x * 1)) true (rw (sym test ∙ e) tt)) in
      ap (λ n. n % den x) (sym (h ∙ mul-one (num x))) ∙ mul-mod_left k (den x)

  pub unequal : eq (of_int binary64 (pos k)) a ≡ false → (num x % den x ≡ 0 → k * den x ≡ num x) → Fraction x
  unequal e h z =
      let same = eqb (k * den x) (num x * 1) in
      T_not (same && true) (rw (sym test ∙ e) tt) (and_i same true (eq→eqb (h z ∙ sym (mul-one (num x)))) tt)

fraction_pos : (n d : ℕ) → (n % d ≡ 0 → ⊥) → 0 < n
fraction_pos zero d z = absurd (z (zero-mod d))
fraction_pos (suc n) d z = omega arith

-- a value with a fraction is no zero, so its sign is what a comparison with 0 says
pub sign_is : (x : Float) (b : Bool) → Fraction x → lt x (of_bits binary64 0) ≡ b → negative x ≡ b
unfolding lt negative of_bits
sign_is nan b z l = absurd (z refl)
sign_is (inf s) b z l = absurd (z refl)
sign_is (fin true m e) b z l = sym (lt-ltb 0 (m * up e * 1 + 0 * 1 * down e) (omega (arith, fraction_pos (m * up e) (down e) z))) ∙ l
sign_is (fin false m e) b z l = sym (le-ltb (m * up e * 1) (0 * 1 * down e) (omega arith)) ∙ l

-- ---- the sizes

pub same_size : (x a : Float) → a ≡ abs x → round_size (num a) (den a) ≡ round_size (num x) (den x)
same_size x a e = ap (λ y. round_size (num y) (den y)) e ∙ at x
  where
    at : (x : Float) → round_size (num (abs x)) (den (abs x)) ≡ round_size (num x) (den x)
    at nan = unfold abs in refl
    at (inf s) = unfold abs in refl
    at (fin s m e) = unfold abs in refl

module _ (n d : ℕ) (D : 0 < d) where
  pub cut_back : n % d ≡ 0 → n / d * d ≡ n
  cut_back z = omega (arith, div-add-mod' n d)

  pub cut_lt : n < 2 ^ 52 * d → n / d < 2 ^ 52
  cut_lt h = (div-lt_iff_lt-mul D).1 h

  -- the size of a negative value's floor: its own where it is whole, and the next one otherwise
  pub up_whole : n % d ≡ 0 → (n + d - 1) / d ≡ n / d
  up_whole z =
      let e : n + d - 1 ≡ n / d * d + (d - 1) = omega (arith, cut_back z) in
      let l : d - 1 < d = omega arith in
      ap (λ k. k / d) e ∙ digits_div (n / d) l

  pub up_part : (n % d ≡ 0 → ⊥) → (n + d - 1) / d ≡ suc (n / d)
  up_part z =
      let e : n + d - 1 ≡ suc (n / d) * d + (n % d - 1) = omega (arith, z, div-add-mod' n d) in
      let l : n % d - 1 < d = omega (arith, mod-lt n D) in
      ap (λ k. k / d) e ∙ digits_div (suc (n / d)) l

  -- the halves, counted
  pub halves : (2 * n / d + 1) / 2 ≡ round_size n d
  halves = ap (λ q. q / 2) (sym (add-div_right (2 * n) D)) ∙ div-div-eq-div-mul (2 * n + d) d 2 ∙ ap (λ q. (2 * n + d) / q) (mul_comm d 2)

  pub round_back : n % d ≡ 0 → round_size n d * d ≡ n
  round_back z =
      let e : 2 * n + d ≡ n / d * (2 * d) + d = omega (arith, cut_back z) in
      let l : d < 2 * d = omega arith in
      ap (λ q. q * d) (ap (λ k. k / (2 * d)) e ∙ digits_div (n / d) l) ∙ cut_back z

  pub round_size_le : n < 2 ^ 52 * d → round_size n d ≤ 2 ^ 52
  round_size_le h =
      let l : 2 * n + d < suc (2 ^ 52) * (2 * d) = omega arith in
      let D2 : 0 < 2 * d = omega arith in
      le_of_suc-le-suc ((div-lt_iff_lt-mul D2).1 l)

-- ---- the whole part of a value below 2 ^ 52, and of twice the value: what the cut asks, and what it gives

pub record Cut (y : Float) (n d : ℕ) : Type 0 where
  pub asks : T (lt (fin true 1 (pos 0)) y) × T (lt y (fin false 1 (pos 64)))
  pub is : to_unsigned 64 y ≡ n / d

cut : (y : Float) (n d : ℕ) → 0 < d → HasValue y false n d → n < 2 ^ 64 * d → Cut y n d
cut y n d D v h = record { asks = cut_asks y n d D v h; is = cut_value 64 y n d D v ((div-lt_iff_lt-mul D).1 h) }

pub cut_below : (x a : Float) → Below x a → Cut a (num x) (den x)
cut_below x a b = cut a (num x) (den x) (den_pos x) b.value (omega (arith, b.small))

module _ (m : ℕ) (e : ℤ) (h : T (fits binary64 (fin false m e))) (l : m * up e < 2 ^ 52 * down e) where
  cut_double : Cut (add binary64 (fin false m e) (fin false m e)) (2 * (m * up e)) (down e)
  cut_double =
      cut (add binary64 (fin false m e) (fin false m e)) (2 * (m * up e)) (down e) (down_pos e)
      (double_exact binary64 false m e h (lt_of_lt_of_le l (mul-le-mul_right (down e) (lit≤ tt))))
      (omega arith)

-- a value that is not negative and below 2 ^ 52
pub record Counted (a : Float) : Type 0 where
  pub cut : Cut (add binary64 a a) (2 * num a) (den a)
  pub small : num a < 2 ^ 52 * den a

pub counted : (a : Float) → T (fits binary64 a) → negative a ≡ false → lt a 2^52 ≡ true → Counted a
unfolding negative abs lt
counted nan h n l = absurd (false≢true l)
counted (inf true) h n l = absurd (true≢false n)
counted (inf false) h n l = absurd (false≢true l)
counted (fin true m e) h n l = absurd (true≢false n)
counted (fin false m e) h n l = let b = below_at (fin false m e) l in record { cut = cut_double m e h b.small; small = b.small }
