-- A comparison without a branch: of two numbers below 2 ^ 63 the sign bit of the wrapped difference says which is the larger, and taken off 0
-- it makes a mask of zeros or ones. Assumes nothing.
use Rattle.std.proofs.Common.{◌≡◌, ℕ, ◌+◌, ◌-◌, ◌*◌, ◌/◌, ◌%◌, ◌^◌, ◌<◌, ◌≤◌, Bool, true, false, cond, not, T, leb, ap, ◌∙◌, mod-eq_of_lt, arith, leb→le}
use lib.Bits.{bit_and, and_zero_r, and_mask}
use lib.Dec.{nleb→lt}

by_test : (t y a b r : ℕ) → (t ≤ y → r ≡ a) → (y < t → r ≡ b) → r ≡ cond (leb t y) a b
by_test t y a b r f g = go (leb t y) (leb→le t y) (nleb→lt t y)
  where
    go : (u : Bool) → (T u → t ≤ y) → (T (not u) → y < t) → r ≡ cond u a b
    go true h k = f (h tt)
    go false h k = g (k tt)

none : (v s : ℕ) → s ≡ 0 → bit_and v s ≡ 0
none v s e = ap (bit_and v) e ∙ and_zero_r v

all : (v s : ℕ) → v < 2 ^ 64 → s ≡ 2 ^ 64 - 1 → bit_and v s ≡ v
all v s l e = ap (bit_and v) e ∙ and_mask v 64 ∙ mod-eq_of_lt l

-- d is y - t, wrapped
module _ (y t d : ℕ) (Y : y < 2 ^ 63) (K : t < 2 ^ 63) (D : d < 2 ^ 64) (e : (d + t) % 2 ^ 64 ≡ y) where
  -- its sign bit
  clear : t ≤ y → (d ≡ y - t) × (d / 2 ^ 63 ≡ 0)
  clear g = (omega arith, omega arith)

  set : y < t → d / 2 ^ 63 ≡ 1
  set g = omega arith

  -- t is added back where it is above y, and the sum doubled
  pub added_back : (s p r : ℕ) → s < 2 ^ 64 → (s + d / 2 ^ 63) % 2 ^ 64 ≡ 0 → p ≡ (d + bit_and t s) % 2 ^ 64 → r ≡ (p + p) % 2 ^ 64
      → r ≡ 2 * cond (leb t y) (y - t) y
  added_back s p r S m h k = doubled (leb t y) sum
    where
      sum : p ≡ cond (leb t y) (y - t) y
      sum =
          by_test t y (y - t) y p
          (λ g. h ∙ ap (λ (x : ℕ). (d + x) % 2 ^ 64) (none t s (omega (arith, (clear g).1))) ∙ omega (arith, (clear g).0))
          (λ g. h ∙ ap (λ (x : ℕ). (d + x) % 2 ^ 64) (all t s (omega arith) (omega (arith, set g))) ∙ e)

      doubled : (b : Bool) → p ≡ cond b (y - t) y → r ≡ 2 * cond b (y - t) y
      doubled true q = omega arith
      doubled false q = omega arith
