-- A computed test of each number below n, and its outcome at each of them. Assumes nothing.
use mathlib.Core.Path.{sym, subst}
use mathlib.Core.Bool.{Bool, true, ◌&&◌}
use mathlib.Core.Logic.{inl, inr}
use Prim.Native.Nat.{ℕ, zero, suc, ◌<◌}
use native.Mathlib.Nat.{le_of_suc-le-suc, not-suc-le-zero, eq-or-lt_of_le}
use lib.Dec.{T}
use lib.Ieee.Fits.{and_l, and_r}

unfoldable pub every : ℕ → (ℕ → Bool) → Bool
every zero f = true
every (suc n) f = f n && every n f

pub every_at : (n : ℕ) (f : ℕ → Bool) → T (every n f) → (k : ℕ) → k < n → T (f k)
unfolding every
every_at zero f t k h = absurd (not-suc-le-zero h)
every_at (suc n) f t k h =
    elim (eq-or-lt_of_le (le_of_suc-le-suc h)) [
      | inl e ↦ subst (λ (i : ℕ). T (f i)) (sym e) (and_l (f n) (every n f) t)
      | inr l ↦ every_at n f (and_r (f n) (every n f) t) k l
    ]
