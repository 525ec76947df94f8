-- A product depends only on the factors' values ±a / c and ±b / d, and no value of the format that is at least as large as the exact one is passed. A
-- sum with +0. Assumes nothing.
use mathlib.Core.Path.{◌≡◌, refl, ap, ◌∙◌}
use Prim.Native.Nat.{ℕ, ◌-◌, ◌*◌, ◌^◌, ◌≤◌, ◌<◌}
use native.Mathlib.Nat.{mul-pos, one-mul, mul-mul-mul_comm}
use native.Mathlib.Omega.{arith}
use mathlib.Core.Bool.{Bool, true, false, ◌&&◌, cond}
use borrow.Author.Tests.{lt-ltb}
use lib.IntN.{ℤ, pos}
use lib.Dec.{T, ltb, lit<}
use lib.Ieee.{Float, fin, Format, prec, low, unlike, up, down, round, sum, add, mul, fits}
use lib.Ieee.Exact.{HasValue}
use lib.Ieee.Fits.{down_pos}
use lib.Ieee.Positive.{first_pos}
use lib.Ieee.Scale.{round_same, overflow}
use Rattle.arithmetic.proofs.Rounding.{AtMost, round_most}
use Rattle.arithmetic.proofs.Units.{of_value, of_values, round_back}

module _ (f : Format) (s t : Bool) (a c b d : ℕ) (C : 0 < c) (D : 0 < d) where
  pub mul_values : (x y : Float) → HasValue x s a c → HasValue y t b d → mul f x y ≡ round f (unlike s t) (a * b) (c * d)
  unfolding mul
  mul_values =
      of_values (λ x y. mul f x y ≡ round f (unlike s t) (a * b) (c * d)) s a c t b d λ m e n g h k.
      round_same f (unlike s t) (m * up e * (n * up g)) (down e * down g) (a * b) (c * d) (mul-pos (down_pos e) (down_pos g)) (mul-pos C D)
      (mul-mul-mul_comm (m * up e) (n * up g) c d ∙ ap (λ r. r * (n * up g * d)) h ∙ ap (λ r. a * down e * r) k ∙ mul-mul-mul_comm a (down e) b (down g))

  -- q * 2 ^ j units, for a q that has no more digits than the format keeps
  pub mul_most : (x y : Float) (q j : ℕ) → HasValue x s a c → HasValue y t b d → q < 2 ^ prec f → q * 2 ^ j < overflow f
      → a * b * 2 ^ low f ≤ q * 2 ^ j * (c * d)
      → AtMost f (mul f x y) (unlike s t) (q * 2 ^ j)
  mul_most x y q j v w Q O h = rw (mul_values x y v w) (round_most f (unlike s t) (a * b) (c * d) q j (mul-pos C D) Q O h)

-- ---- 0 + x, for an x below zero

zero_plus_at : (f : Format) (m : ℕ) (e : ℤ) → T (fits f (fin true m e)) → 0 < m * up e → add f (fin false 0 (pos 0)) (fin true m e) ≡ fin true m e
unfolding add sum
zero_plus_at f m e h l =
    let a = 0 * 1 * down e in
    let b = m * up e * 1 in
    let k : 0 * 1 * down e < m * up e * 1 = omega arith in
    let g : m * up e ≡ m * up e * 1 - 0 * 1 * down e = omega arith in
    ap (λ p. cond p (round f true (b - a) (1 * down e)) (round f (false && ltb b a) (a - b) (1 * down e))) (lt-ltb a b k)
    ∙ round_back f (fin true m e) true (b - a) (1 * down e) (mul-pos (lit< tt) (down_pos e)) h
    (refl, ap (λ d. m * up e * d) (one-mul (down e)) ∙ ap (λ n. n * down e) g)

pub zero_plus : (f : Format) (x : Float) (a c : ℕ) → T (fits f x) → HasValue x true a c → 0 < a → add f (fin false 0 (pos 0)) x ≡ x
zero_plus f x a c h v A =
    of_value (λ y. T (fits f y) → add f (fin false 0 (pos 0)) y ≡ y) true a c
    (λ m e k g. zero_plus_at f m e g (first_pos (m * up e) c (rw k (mul-pos A (down_pos e))))) x v h
