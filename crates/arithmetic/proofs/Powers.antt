-- Powers of two, and how many binary digits a number has. Assumes nothing.
use mathlib.Core.Path.{◌≡◌, refl, sym, ap, ◌∙◌}
use Prim.Native.Nat.{ℕ, suc, ◌+◌, ◌*◌, ◌^◌, ◌≤◌, ◌<◌}
use native.Mathlib.Nat.{le_trans, le_of_eq, le_antisymm, lt_of_lt_of_le, lt_of_le_of_lt, lt_of_not-le, not-le_of_lt, mul-le-mul_right, mul_assoc}
use native.Mathlib.Omega.{arith}
use lib.Pow.{pow-add, pow_mono, pow-lt, shl_lt}
use lib.Ieee.{size}
use lib.Ieee.Digits.{size-lt, size-le}

pub apart : (w i j k : ℕ) → i ≡ j + k → w * 2 ^ i ≡ w * 2 ^ j * 2 ^ k
apart w i j k e = ap (λ n. w * 2 ^ n) e ∙ ap (λ n. w * n) (pow-add 2 j k) ∙ sym (mul_assoc w (2 ^ j) (2 ^ k))

pub power_lt : (i j : ℕ) → 2 ^ i < 2 ^ j → i < j
power_lt i j h = lt_of_not-le (λ g. not-le_of_lt h (pow_mono g))

pub power_le : (i j : ℕ) → 2 ^ i ≤ 2 ^ j → i ≤ j
power_le i j h = le_of_not_lt (λ g. not-le_of_lt (pow-lt g) h)
  where
    le_of_not_lt : {a b : ℕ} → (b < a → ⊥) → a ≤ b
    le_of_not_lt h = omega arith

pub size_is : (n p : ℕ) → 2 ^ p ≤ n → n < 2 ^ suc p → size n ≡ suc p
size_is n p lo hi = le_antisymm (size-le n (suc p) hi) (power_lt p (size n) (lt_of_le_of_lt lo (size-lt n)))

-- n has p + 1 digits, so n * 2 ^ k has k more
module _ (n p k : ℕ) (lo : 2 ^ p ≤ n) (hi : n < 2 ^ suc p) where
  pub shifted_ge : (q : ℕ) → p + k ≡ q → 2 ^ q ≤ n * 2 ^ k
  shifted_ge q e = le_trans (le_of_eq (ap (λ i. 2 ^ i) (sym e) ∙ pow-add 2 p k)) (mul-le-mul_right (2 ^ k) lo)

  pub shifted_lt : (q : ℕ) → p + k ≡ q → n * 2 ^ k < 2 ^ suc q
  shifted_lt q e = lt_of_lt_of_le (shl_lt (suc p) k hi) (pow_mono (omega arith))

  pub shifted_size : size (n * 2 ^ k) ≡ suc (p + k)
  shifted_size = size_is (n * 2 ^ k) (p + k) (shifted_ge (p + k) refl) (shifted_lt (p + k) refl)
