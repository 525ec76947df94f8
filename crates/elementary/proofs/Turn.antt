-- The reduction of an angle: the remainder by TAU is below TAU, so the count of quarter turns is at most 17/4,
-- and the nearest whole number n to it, as a float and mod 4, from its size and a comparison with 0. Assumes nothing.
use Rattle.std.proofs.Common.{◌≡◌, ℕ, zero, suc, ◌+◌, ◌-◌, ◌*◌, ◌%◌, ◌^◌, ◌<◌, ◌≤◌, Bool, true, false, cond, T, pos, negsuc, neg_ℤ, sym, refl, ap, ◌∙◌, subst, le_trans, lt_of_le_of_lt, le_of_lt, mul-le-mul_right, mod-lt, zero-lt-suc, mul-lt-mul_of_pos_right, arith, lit<, lit≤, pow_pos, ltb-false, ltb-true, lt-ltb}
use native.Mathlib.Nat.{div-eq_of_lt}
use mathlib.Core.Bool.{false≢true}
use lib.Ieee.{Float, nan, inf, fin, binary64, up, down, unlike, round, add, sub, mul, rem, lt, of_int, of_bits, fits}
use lib.Ieee.Back.{round_whole}
use lib.Ieee.Exact.{HasValue}
use lib.Ieee.Fits.{down_pos, round-fits}
use lib.Ieee.Positive.{num, den}
use Rattle.answer.specs.Number.{is_finite}
use Rattle.arithmetic.specs.Arith.{ieee}
use Rattle.arithmetic.proofs.Compared.{lt_values}
use Rattle.arithmetic.proofs.Product.{mul_most, zero_plus}
use Rattle.arithmetic.proofs.Remainder.{rem_exact}
use Rattle.arithmetic.proofs.Rounding.{AtMost, neg_round}
use Rattle.arithmetic.proofs.Units.{of_value, rise}
use Rattle.elementary.specs.Signs.{abs, negative}
use Rattle.elementary.proofs.Smaller.{own_remainder}
use Rattle.elementary.specs.Constants.{TAU, FRAC_2_PI}
use Rattle.elementary.specs.Sine.{modulo4, whole_float}
use Rattle.elementary.specs.Whole.{round_size, roundℤ}
use Rattle.elementary.proofs.Fraction.{2^52}

-- ---- within a turn

-- TAU is this times 2 ^ -47: in units of 2 ^ -1074 it is `turn`
abbrev tau_digits : ℕ
tau_digits = 884279719003555

abbrev pub turn : ℕ
turn = tau_digits * 2 ^ 1027

tau_fits : T (fits binary64 (fin false tau_digits (negsuc 46)))
unfolding fits
tau_fits = tt

abs_value : (x : Float) (s : Bool) (a c : ℕ) → HasValue x s a c → HasValue (abs x) false a c
unfolding abs
abs_value x s a c = of_value (λ y. HasValue (abs y) false a c) s a c (λ m e h. (refl, h)) x

-- what is left of a finite angle is below a turn
pub left_within : (x : Float) → T (fits binary64 x) → is_finite x ≡ true → lt (abs (rem binary64 x TAU)) TAU ≡ true
unfolding is_finite TAU of_bits
left_within nan h f = absurd (false≢true f)
left_within (inf s) h f = absurd (false≢true f)
left_within (fin s m e) h f =
    let left = m * 2 ^ rise binary64 e % turn in
    let y = rem binary64 (fin s m e) TAU in
    let is : HasValue y s left (2 ^ 1074) = rem_exact binary64 s m e false tau_digits (negsuc 46) h tau_fits (lit< tt) in
    let less : left < turn = mod-lt (m * 2 ^ rise binary64 e) (lit< tt) in
    lt_values false false left (2 ^ 1074) tau_digits (2 ^ 47) (pow_pos 1074) (pow_pos 47) (abs y) TAU (abs_value y s left (2 ^ 1074) is) (refl, refl)
    ∙ lt-ltb (left * 2 ^ 47) (tau_digits * 2 ^ 1074) (mul-lt-mul_of_pos_right less (pow_pos 47))

-- an angle within a turn is finite, and is what is left of it
pub within_finite : (y : Float) → lt (abs y) TAU ≡ true → is_finite y ≡ true
unfolding is_finite lt abs TAU of_bits
within_finite nan l = absurd (false≢true l)
within_finite (inf s) l = absurd (false≢true l)
within_finite (fin s m e) l = refl

pub within_own : (y : Float) → T (fits binary64 y) → lt (abs y) TAU ≡ true → y ≡ rem binary64 y TAU
unfolding TAU abs of_bits
within_own y h l = own_remainder y TAU h l

remainder_below : (x : Float) → T (fits binary64 x) → is_finite x ≡ true → AtMost binary64 (rem binary64 x TAU) (negative x) turn
unfolding is_finite negative TAU of_bits
remainder_below nan h f = absurd (false≢true f)
remainder_below (inf s) h f = absurd (false≢true f)
remainder_below (fin s m e) h f =
    record {
      units = m * 2 ^ rise binary64 e % turn;
      is = rem_exact binary64 s m e false tau_digits (negsuc 46) h tau_fits (lit< tt);
      most = le_of_lt (mod-lt (m * 2 ^ rise binary64 e) (lit< tt));
    }

within_below : (y : Float) → T (fits binary64 y) → lt (abs y) TAU ≡ true → AtMost binary64 y (negative y) turn
within_below y h l =
    subst (λ (z : Float). AtMost binary64 z (negative y) turn) (sym (within_own y h l)) (remainder_below y h (within_finite y l))

-- FRAC_2_PI is this times 2 ^ -53
abbrev quarter_digits : ℕ
quarter_digits = 5734161139222659

-- 17/4
abbrev pub quarters_most : ℕ
quarters_most = 17 * 2 ^ 1072

product : (y : Float) (s : Bool) → AtMost binary64 y s turn → AtMost binary64 (mul binary64 y FRAC_2_PI) (unlike s false) quarters_most
unfolding FRAC_2_PI of_bits
product y s r =
    let most = le_trans (mul-le-mul_right (2 ^ 1074) (mul-le-mul_right quarter_digits r.most)) (lit≤ tt) in
    mul_most binary64 s false r.units (2 ^ 1074) quarter_digits (2 ^ 53) (pow_pos 1074) (pow_pos 53)
    y (fin false quarter_digits (negsuc 52)) 17 1072 r.is (refl, refl) (lit< tt) (lit< tt) most

quarters_signed : (y : Float) (s : Bool) → AtMost binary64 y s turn → AtMost binary64 (mul binary64 y FRAC_2_PI) s quarters_most
quarters_signed y true r = product y true r
quarters_signed y false r = product y false r

-- the quarter turns of an angle within a turn
pub quarters_few : (y : Float) → T (fits binary64 y) → lt (abs y) TAU ≡ true → AtMost binary64 (mul binary64 y FRAC_2_PI) (negative y) quarters_most
quarters_few y h l = quarters_signed y (negative y) (within_below y h l)

pub few_finite : (q : Float) (s : Bool) → AtMost binary64 q s quarters_most → is_finite q ≡ true
unfolding is_finite
few_finite q s r = of_value (λ y. is_finite y ≡ true) s r.units (2 ^ 1074) (λ m e h. refl) q r.is

-- ---- the nearest whole number

-- what `nearest_size` asks
pub size_asks : (q a : Float) (s : Bool) → a ≡ abs q → AtMost binary64 q s quarters_most → lt a 2^52 ≡ true
size_asks q a s e r =
    ap (λ y. lt y 2^52) e
    ∙ lt_values false false r.units (2 ^ 1074) (2 ^ 52) 1 (pow_pos 1074) (pow_pos 0)
    (abs q) 2^52 (abs_value q s r.units (2 ^ 1074) r.is) (refl, refl)
    ∙ lt-ltb (r.units * 1) (2 ^ 52 * 2 ^ 1074) (lt_of_le_of_lt (mul-le-mul_right 1 r.most) (lit< tt))

-- its sign: q is negative, or its size rounds to 0, where there is none
pub nearest_is : (q : Float) (b : Bool) → lt q (of_bits binary64 0) ≡ b → let k = round_size (num q) (den q) in roundℤ q ≡ cond b (neg_ℤ (pos k)) (pos k)
unfolding lt of_bits roundℤ
nearest_is nan b l = ap (λ p. cond p (pos 0) (pos 0)) l
nearest_is (inf true) b l = ap (λ p. cond p (pos 0) (pos 0)) l
nearest_is (inf false) b l = ap (λ p. cond p (pos 0) (pos 0)) l
nearest_is (fin true m e) true l = refl
nearest_is (fin true m e) false l =
    let g : m * up e * 1 + 0 * 1 * down e ≤ 0 = ltb-false 0 (m * up e * 1 + 0 * 1 * down e) l in
    let z : round_size (m * up e) (down e) ≡ 0 = no_halves (m * up e) (down e) (down_pos e) (omega arith) in
    ap (λ k. neg_ℤ (pos k)) z ∙ ap pos (sym z)
  where
    no_halves : (n d : ℕ) → 0 < d → n ≡ 0 → round_size n d ≡ 0
    no_halves n d D z = let l : 2 * n + d < 2 * d = omega arith in div-eq_of_lt l
nearest_is (fin false m e) true l = let g : m * up e * 1 < 0 * 1 * down e = ltb-true (m * up e * 1) (0 * 1 * down e) l in absurd (omega arith)
nearest_is (fin false m e) false l = refl

-- as a float: 0 - k for a negative one
pub plus_float : (k : ℕ) → of_int binary64 (pos k) ≡ whole_float ieee (pos k)
unfolding of_int whole_float
plus_float k = refl

pub minus_float : (k : ℕ) → k ≤ 2 ^ 53 → sub binary64 (of_bits binary64 0) (of_int binary64 (pos k)) ≡ whole_float ieee (neg_ℤ (pos k))
unfolding of_int whole_float sub of_bits
minus_float zero h = refl
minus_float (suc k) h =
    ap (add binary64 (fin false 0 (pos 0))) (neg_round binary64 false (suc k) 1)
    ∙ zero_plus binary64 (round binary64 true (suc k) 1) (suc k) 1
    (round-fits binary64 true (suc k) 1) (round_whole binary64 true (suc k) h) (zero-lt-suc k)

-- mod 4
pub plus_quarter : (k : ℕ) → k % 4 ≡ modulo4 (pos k)
unfolding modulo4
plus_quarter k = refl

pub minus_quarter : (k : ℕ) → (4 - k % 4) % 4 ≡ modulo4 (neg_ℤ (pos k))
unfolding modulo4
minus_quarter zero = refl
minus_quarter (suc k) = omega arith
