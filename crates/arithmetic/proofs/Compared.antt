-- Comparisons and the cut to a whole number depend only on the values: x and y may be any fractions ±a / c and ±b / d. Assumes nothing.
use mathlib.Core.Path.{◌≡◌, refl, sym, ap, ◌∙◌}
use Prim.Native.Nat.{ℕ, ◌+◌, ◌-◌, ◌*◌, ◌/◌, ◌^◌, ◌<◌, min}
use native.Mathlib.Nat.{zero-mul, mul-pos, mul_comm, mul_assoc, mul_left_comm, mul-lt-mul_of_pos_right, lt_of_mul-lt-mul_right, eq_of_mul-eq-mul_right}
use native.Mathlib.Omega.{arith}
use mathlib.Core.Bool.{Bool, true, false, ◌&&◌, ◌||◌, beq}
use lib.IntN.{pos}
use lib.Dec.{T, ltb, eqb, ltb→lt, lt→ltb, eqb→eq, lit<}
use lib.Ieee.{Float, fin, up, down, below, level, lt, eq, to_unsigned}
use lib.Ieee.Exact.{HasValue}
use lib.Ieee.Fits.{down_pos, eq→eqb}
use lib.Ieee.Nearest.{div_same}
use Rattle.arithmetic.proofs.Units.{of_value, of_values}

-- ---- tests on two numbers and on the same multiples of them

pub test_same : (p q : Bool) → (T p → T q) → (T q → T p) → p ≡ q
test_same true true f g = refl
test_same true false f g = absurd (f tt)
test_same false true f g = absurd (g tt)
test_same false false f g = refl

module _ (A B a b P Q : ℕ) (hP : 0 < P) (hQ : 0 < Q) (ea : A * P ≡ a * Q) (eb : B * P ≡ b * Q) where
  ltb_same : ltb A B ≡ ltb a b
  ltb_same =
      test_same (ltb A B) (ltb a b)
      (λ t. lt→ltb a b (lt_of_mul-lt-mul_right Q (rw (← ea, ← eb) (mul-lt-mul_of_pos_right (ltb→lt A B t) hP))))
      (λ t. lt→ltb A B (lt_of_mul-lt-mul_right P (rw (ea, eb) (mul-lt-mul_of_pos_right (ltb→lt a b t) hQ))))

  eqb_same : eqb A B ≡ eqb a b
  eqb_same =
      test_same (eqb A B) (eqb a b)
      (λ t. eq→eqb (eq_of_mul-eq-mul_right Q hQ a b (sym ea ∙ ap (λ n. n * P) (eqb→eq A B t) ∙ eb)))
      (λ t. eq→eqb (eq_of_mul-eq-mul_right P hP A B (ea ∙ ap (λ n. n * Q) (eqb→eq a b t) ∙ sym eb)))

module _ (A B a b P Q : ℕ) (hP : 0 < P) (hQ : 0 < Q) (ea : A * P ≡ a * Q) (eb : B * P ≡ b * Q) where
  below_same : (s t : Bool) → below s A t B ≡ below s a t b
  below_same false false = ltb_same A B a b P Q hP hQ ea eb
  below_same false true = refl
  below_same true false = ltb_same 0 (A + B) 0 (a + b) P Q hP hQ (zero-mul P ∙ sym (zero-mul Q)) (omega arith)
  below_same true true = ltb_same B A b a P Q hP hQ eb ea

  level_same : (s t : Bool) → level s A t B ≡ level s a t b
  level_same s t =
      ap (λ p. p && (beq s t || eqb A 0)) (eqb_same A B a b P Q hP hQ ea eb)
      ∙ ap (λ p. eqb a b && (beq s t || p)) (eqb_same A 0 a 0 P Q hP hQ ea (zero-mul P ∙ sym (zero-mul Q)))

-- ---- the comparisons

-- x / p is a / c, so x * q / (p * q) is a * d / (c * d)
cross : (x p a c q d : ℕ) → x * c ≡ a * p → x * q * (c * d) ≡ a * d * (p * q)
cross x p a c q d e = simp (mul_assoc, mul_comm, mul_left_comm) (simp (mul_assoc, mul_comm) at (ap (λ n. n * (q * d)) e))

cross' : (y q b d p c : ℕ) → y * d ≡ b * q → y * p * (c * d) ≡ b * c * (p * q)
cross' y q b d p c e = rw (mul_comm c d, mul_comm p q) (cross y q b d p c e)

module _ (s t : Bool) (a c b d : ℕ) (C : 0 < c) (D : 0 < d) where
  pub lt_values : (x y : Float) → HasValue x s a c → HasValue y t b d → lt x y ≡ below s (a * d) t (b * c)
  unfolding lt
  lt_values =
      of_values (λ x y. lt x y ≡ below s (a * d) t (b * c)) s a c t b d λ m e n g h k.
      below_same (m * up e * down g) (n * up g * down e) (a * d) (b * c) (c * d) (down e * down g) (mul-pos C D) (mul-pos (down_pos e) (down_pos g))
      (cross (m * up e) (down e) a c (down g) d h) (cross' (n * up g) (down g) b d (down e) c k) s t

  pub eq_values : (x y : Float) → HasValue x s a c → HasValue y t b d → eq x y ≡ level s (a * d) t (b * c)
  unfolding eq
  eq_values =
      of_values (λ x y. eq x y ≡ level s (a * d) t (b * c)) s a c t b d λ m e n g h k.
      level_same (m * up e * down g) (n * up g * down e) (a * d) (b * c) (c * d) (down e * down g) (mul-pos C D) (mul-pos (down_pos e) (down_pos g))
      (cross (m * up e) (down e) a c (down g) d h) (cross' (n * up g) (down g) b d (down e) c k) s t

-- ---- the cut to a whole number

-- what `truncating_f64_to_u64` asks
pub cut_asks : (x : Float) (a c : ℕ) → 0 < c → HasValue x false a c → a < 2 ^ 64 * c → T (lt (fin true 1 (pos 0)) x) × T (lt x (fin false 1 (pos 64)))
cut_asks x a c C v h = (
  rw (lt_values true false 1 1 a c (lit< tt) C (fin true 1 (pos 0)) x (refl, refl) v) (lt→ltb 0 (1 * c + a * 1) (omega arith)),
  rw (lt_values false false a c (2 ^ 64) 1 C (lit< tt) x (fin false 1 (pos 64)) v (refl, refl)) (lt→ltb (a * 1) (2 ^ 64 * c) (omega arith)),
)

pub cut_value : (w : ℕ) (x : Float) (a c : ℕ) → 0 < c → HasValue x false a c → a / c < 2 ^ w → to_unsigned w x ≡ a / c
unfolding to_unsigned
cut_value w x a c C v h = of_value (λ y. to_unsigned w y ≡ a / c) false a c
    (λ m e k. ap (λ n. min n (2 ^ w - 1)) (div_same (m * up e) (down e) a c (down_pos e) C k) ∙ within (a / c) (2 ^ w) h) x v
  where
    within : (n p : ℕ) → n < p → min n (p - 1) ≡ n
    within n p h = omega arith
