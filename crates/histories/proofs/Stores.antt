-- A store of marked slots, over its width, how many slots it has and what is defined for each: all slots once one is written. Assumes
-- nothing.
use mathlib.Core.Path.{◌≡◌, refl, ap, ◌∙◌}
use mathlib.Core.Bool.{Bool, true, false, cond, ◌||◌, or-true, or-false}
use mathlib.Core.List.{List, ◌∷◌}
use Prim.Native.Nat.{ℕ, zero, suc, ◌+◌, ◌*◌, ◌<◌, ◌≤◌}
use native.Mathlib.Nat.{mul-le-mul_right}
use native.Mathlib.Decide.{ℕ_discrete}
use native.Mathlib.Omega.{arith}
use lib.Dec.{eqb}
use lib.ListN.{length, get_or, replicate}
use lib.Ieee.{Float, nan, eq, of_bits}
use borrow.Author.Tests.{eq-eqb, ne_eqb}
use Rattle.arithmetic.specs.Numbers.{0·0, 1·0}
use Rattle.stores.specs.Slots.{filled, slot_written}
use Rattle.histories.specs.Since.{Slots}
use Rattle.histories.specs.Defined.{slot_at}
use Rattle.stores.proofs.ReadBack.{get_d_beyond}
use Rattle.stores.proofs.Written.{one_marks, mark_at, written_length, written_same, written_other}

-- ---- a slot that is known to hold its mark and a run, or nothing but 0.0

abbrev pub slot_of : Bool → ℕ → List Float → List Float
slot_of b w r = cond b (1·0 ∷ r) (replicate w 0·0)

zeros_empty : (w : ℕ) → 0 < w → eq (get_or (replicate w 0·0) 0 nan) 1·0 ≡ false
unfolding eq of_bits
zeros_empty zero h = absurd (omega arith)
zeros_empty (suc w) h = refl

nan_empty : eq nan 1·0 ≡ false
unfolding eq of_bits
nan_empty = refl

module _ (w : ℕ) (xs : List Float) (k : ℕ) (positive : 0 < w) where
  pub slot_filled : (b : Bool) (r : List Float) → slot_at w xs k ≡ slot_of b w r → filled xs (k * w) ≡ b
  slot_filled true r e = mark_at w xs k positive ∙ ap (λ (l : List Float). eq (get_or l 0 nan) 1·0) e ∙ one_marks
  slot_filled false r e = mark_at w xs k positive ∙ ap (λ (l : List Float). eq (get_or l 0 nan) 1·0) e ∙ zeros_empty w positive

-- behind a store's end no slot is filled
pub beyond_empty : (xs : List Float) (i : ℕ) → length xs ≤ i → filled xs i ≡ false
unfolding filled
beyond_empty xs i h = ap (λ (x : Float). eq x 1·0) (get_d_beyond xs i nan h) ∙ nan_empty

-- ---- all slots of a store: a used one holds its mark and what is defined for it, any other only 0.0

abbrev pub Holds : ℕ → ℕ → (ℕ → List Float) → Slots → List Float → Type 0
Holds w n runs u xs = (k : ℕ) → k < n → slot_at w xs k ≡ slot_of (u k) w (runs k)

-- a slot that is written has been used, and nothing else changes
module _ (w n : ℕ) (runs : ℕ → List Float) (u : Slots) (xs : List Float) (long : length xs ≡ n * w) (holds : Holds w n runs u xs)
    (k : ℕ) (inside : k < n) (size : suc (length (runs k)) ≡ w) where
  fits : k * w + w ≤ length xs
  fits = omega (arith, mul-le-mul_right w inside)

  pub written_long : length (slot_written w xs k (runs k)) ≡ n * w
  written_long = written_length w xs k (runs k) size fits ∙ long

  written_slot : slot_at w (slot_written w xs k (runs k)) k ≡ 1·0 ∷ runs k
  written_slot = written_same w xs k (runs k) size fits ∙ go (u k) (holds k inside)
    where
      go : (b : Bool) → slot_at w xs k ≡ slot_of b w (runs k) → cond (filled xs (k * w)) (slot_at w xs k) (1·0 ∷ runs k) ≡ 1·0 ∷ runs k
      go true e = rw (slot_filled w xs k (omega arith) true (runs k) e) e
      go false e = rw (slot_filled w xs k (omega arith) false (runs k) e)

  pub written_holds : Holds w n runs (λ j. u j || eqb j k) (slot_written w xs k (runs k))
  written_holds j h = go (ℕ_discrete j k)
    where
      go : Dec (j ≡ k) → slot_at w (slot_written w xs k (runs k)) j ≡ slot_of (u j || eqb j k) w (runs j)
      go (yes e) = rw (e, eq-eqb k k refl, or-true) written_slot
      go (no ne) = rw (ne_eqb j k ne, or-false) (written_other w xs k (runs k) size fits j ne ∙ holds j h)
