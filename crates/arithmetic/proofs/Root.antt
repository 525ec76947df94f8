-- The whole root. `root_from` finds the one number whose square is at most n while the next one's is above it, and `nearest_root` is that
-- number or the next: the one on whose either side the midpoint's square lies beyond n. Assumes nothing.
use mathlib.Core.Path.{◌≡◌, sym, ap, ◌∙◌, subst}
use Prim.Native.Nat.{ℕ, zero, suc, ◌+◌, ◌-◌, ◌*◌, ◌^◌, ◌≤◌, ◌<◌, zero-le}
use native.Mathlib.Nat.{lt_of_le_of_lt, le_antisymm, le_of_suc-le-suc, lt_of_not-le, not-le_of_lt, mul-le-mul, two-pow-succ}
use native.Mathlib.Decide.{dec_le}
use native.Mathlib.Numerals.{add-one}
use native.Mathlib.Omega.{arith}
use mathlib.Core.Bool.{Bool, true, false, not, cond}
use borrow.Author.Tests.{lt-ltb, le-ltb}
use lib.Dec.{T, leb, ltb, leb→le, nleb→lt}
use Rattle.arithmetic.specs.Sqrt.{root_from, nearest_root}

-- r is the whole part of n's root
abbrev pub Floor : ℕ → ℕ → Type 0
Floor n r = (r * r ≤ n) × (n < suc r * suc r)

pub lt_of_squares : (a b : ℕ) → a * a < b * b → a < b
lt_of_squares a b h = lt_of_not-le (λ (g : b ≤ a). not-le_of_lt h (mul-le-mul g g))

floor_le : (n r s : ℕ) → Floor n r → Floor n s → r ≤ s
floor_le n r s f g = le_of_suc-le-suc (lt_of_squares r (suc s) (lt_of_le_of_lt f.0 g.1))

pub floor_unique : (n r s : ℕ) → Floor n r → Floor n s → r ≡ s
floor_unique n r s f g = le_antisymm (floor_le n r s f g) (floor_le n s r g f)

root_from_floor : (k n c : ℕ) → c * c ≤ n → n < (c + 2 ^ k) * (c + 2 ^ k) → Floor n (root_from k n c)
unfolding root_from
root_from_floor zero n c lo hi = (lo, subst (λ (x : ℕ). n < x * x) (add-one c) hi)
root_from_floor (suc k) n c lo hi = go (leb (d * d) n) (leb→le (d * d) n) (nleb→lt (d * d) n) (root_from_floor k n)
  where
    d : ℕ
    d = c + 2 ^ k

    twice : (x : ℕ) → c + (x + x) ≡ c + x + x
    twice x = omega arith

    go : (t : Bool) → (T t → d * d ≤ n) → (T (not t) → n < d * d)
        → ((e : ℕ) → e * e ≤ n → n < (e + 2 ^ k) * (e + 2 ^ k) → Floor n (root_from k n e)) → Floor n (root_from k n (cond t d c))
    go true h g ih = ih d (h tt) (subst (λ (x : ℕ). n < x * x) (ap (λ (x : ℕ). c + x) (two-pow-succ k) ∙ twice (2 ^ k)) hi)
    go false h g ih = ih c lo (g tt)

-- the midpoints with the numbers before and after q have squares below and above n
abbrev pub Near : ℕ → ℕ → Type 0
Near n q = ((2 * q - 1) * (2 * q - 1) < 4 * n) × (4 * n < (2 * q + 1) * (2 * q + 1))

module _ (k n : ℕ) (small : n < 2 ^ k * 2 ^ k) where
  pub root_floor : Floor n (root_from k n 0)
  root_floor = root_from_floor k n 0 zero-le (from_zero (2 ^ k) small)
    where
      from_zero : (x : ℕ) → n < x * x → n < (0 + x) * (0 + x)
      from_zero x h = omega arith

  module _ (r : ℕ) (f : Floor n r) where
    pub nearest_by : nearest_root k n ≡ cond (ltb ((2 * r + 1) * (2 * r + 1)) (4 * n)) (suc r) r
    unfolding nearest_root
    nearest_by = ap (λ (x : ℕ). cond (ltb ((2 * x + 1) * (2 * x + 1)) (4 * n)) (suc x) x) (floor_unique n (root_from k n 0) r root_floor f)

    pub rounds_up : r * r + r < n → nearest_root k n ≡ suc r
    rounds_up h = nearest_by ∙ ap (λ t. cond t (suc r) r) (lt-ltb ((2 * r + 1) * (2 * r + 1)) (4 * n) (omega arith))

    pub rounds_down : n ≤ r * r + r → nearest_root k n ≡ r
    rounds_down h = nearest_by ∙ ap (λ t. cond t (suc r) r) (le-ltb ((2 * r + 1) * (2 * r + 1)) (4 * n) (omega arith))

  -- for an n above 0
  pub nearest_near : 0 < n → Near n (nearest_root k n)
  nearest_near p = go (dec_le n (r * r + r))
    where
      r : ℕ
      r = root_from k n 0

      below : (s : ℕ) → Floor n s → n ≤ s * s + s → Near n s
      below zero f h = (omega arith, omega arith)
      below (suc s) f h =
          let e : 2 * suc s - 1 ≡ 2 * s + 1 = omega arith in
          let l = f.0 in
          (subst (λ (x : ℕ). x * x < 4 * n) (sym e) (omega arith), omega arith)

      beyond : (s : ℕ) → Floor n s → s * s + s < n → Near n (suc s)
      beyond s f h =
          let e : 2 * suc s - 1 ≡ 2 * s + 1 = omega arith in
          let l = f.1 in
          (subst (λ (x : ℕ). x * x < 4 * n) (sym e) (omega arith), omega arith)

      go : Dec (n ≤ r * r + r) → Near n (nearest_root k n)
      go (yes h) = subst (Near n) (sym (rounds_down r root_floor h)) (below r root_floor h)
      go (no h) = let l = lt_of_not-le h in subst (Near n) (sym (rounds_up r root_floor l)) (beyond r root_floor l)

pub near_ge : (n q a : ℕ) → Near n q → a * a ≤ n → a ≤ q
near_ge n q a f h =
    let u = f.1 in
    let l : 2 * a < 2 * q + 1 = lt_of_squares (2 * a) (2 * q + 1) (omega arith) in
    omega arith

pub near_le : (n q b : ℕ) → Near n q → n < b * b → q ≤ b
near_le n q b f h =
    let l : 2 * q - 1 < 2 * b = lt_of_squares (2 * q - 1) (2 * b) (go f.0) in
    omega arith
  where
    go : (2 * q - 1) * (2 * q - 1) < 4 * n → (2 * q - 1) * (2 * q - 1) < 2 * b * (2 * b)
    go g = omega arith
