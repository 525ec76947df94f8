-- A slot of a store after one was written, over the width, whatever the store holds: the slot itself, any other, and what is taken of
-- one that is read where it is filled. Assumes nothing.
use mathlib.Core.Path.{◌≡◌, refl, sym, ap, ◌∙◌}
use mathlib.Core.Bool.{Bool, true, false, cond}
use mathlib.Core.List.{List, ◌∷◌}
use Prim.Native.Nat.{ℕ, suc, ◌+◌, ◌*◌, ◌<◌, ◌≤◌}
use native.Mathlib.Nat.{add-zero}
use native.Mathlib.Decide.{ℕ_discrete}
use native.Mathlib.Omega.{arith}
use lib.ListN.{length, get_or}
use lib.Ieee.{Float, nan, eq, of_bits}
use Rattle.arithmetic.specs.Numbers.{1·0}
use Rattle.stores.specs.Slots.{run, put, filled, slot_written}
use Rattle.stores.proofs.Runs.{length_put}
use Rattle.stores.proofs.ReadBack.{Outside, put_outside, get_d_run, run_same, run_put, run_run, other_slot}

-- the numbers of slot k in a store of the width w
abbrev pub slot_at : ℕ → List Float → ℕ → List Float
slot_at w store k = run store (k * w) w

-- ---- a slot that is written

-- a filled one stays as it stands
pub full_stays : (w : ℕ) (xs : List Float) (k : ℕ) (ys : List Float) → filled xs (k * w) ≡ true → slot_written w xs k ys ≡ xs
unfolding slot_written
full_stays w xs k ys full = rw full

module _ (w : ℕ) (xs : List Float) (k : ℕ) (ys : List Float) (size : suc (length ys) ≡ w) (fits : k * w + w ≤ length xs) where
  abbrev written : List Float
  written = slot_written w xs k ys

  pub written_length : length written ≡ length xs
  unfolding slot_written
  written_length = go (filled xs (k * w))
    where
      go : (b : Bool) → length (cond b xs (put xs (k * w) (1·0 ∷ ys))) ≡ length xs
      go true = refl
      go false = length_put xs (k * w) (1·0 ∷ ys) (omega arith)

  pub written_same : slot_at w written k ≡ cond (filled xs (k * w)) (slot_at w xs k) (1·0 ∷ ys)
  unfolding slot_written
  written_same = go (filled xs (k * w))
    where
      go : (b : Bool) → slot_at w (cond b xs (put xs (k * w) (1·0 ∷ ys))) k ≡ cond b (slot_at w xs k) (1·0 ∷ ys)
      go true = refl
      go false = ap (run (put xs (k * w) (1·0 ∷ ys)) (k * w)) (sym size) ∙ run_put xs (k * w) (1·0 ∷ ys) (omega arith)

  pub written_outside : (i : ℕ) → Outside (k * w) w i → get_or written i nan ≡ get_or xs i nan
  unfolding slot_written
  written_outside i out = go (filled xs (k * w))
    where
      go : (b : Bool) → get_or (cond b xs (put xs (k * w) (1·0 ∷ ys))) i nan ≡ get_or xs i nan
      go true = refl
      go false = put_outside xs (k * w) (1·0 ∷ ys) i nan (rw size out) (omega arith)

  pub written_other : (j : ℕ) → (j ≡ k → ⊥) → slot_at w written j ≡ slot_at w xs j
  written_other j ne = run_same written xs (j * w) w nan written_length (λ i h. written_outside (j * w + i) (other_slot w j k i ne h))

-- ---- a slot that is read

pub one_marks : eq 1·0 1·0 ≡ true
unfolding eq of_bits
one_marks = refl

module _ (w : ℕ) (xs : List Float) (k : ℕ) where
  pub mark_at : 0 < w → filled xs (k * w) ≡ eq (get_or (slot_at w xs k) 0 nan) 1·0
  unfolding filled
  mark_at positive =
      let first = ap (λ (i : ℕ). get_or xs i nan) (sym (add-zero (k * w))) ∙ sym (get_d_run xs (k * w) w 0 nan positive) in
      ap (λ (x : Float). eq x 1·0) first

  -- n numbers from the i-th of a slot on
  pub slot_part : (i n : ℕ) (r : List Float) → i + n ≤ w → slot_at w xs k ≡ r → run xs (k * w + i) n ≡ run r i n
  slot_part i n r h e = sym (run_run xs (k * w) w i n h) ∙ ap (λ (l : List Float). run l i n) e

-- what is taken of a slot: something read from it where it is filled, and otherwise `built`
abbrev pub taken_of : {X : Type 0} → ℕ → List Float → ℕ → (List Float → X) → X → X
taken_of w xs k read built = cond (filled xs (k * w)) (read (slot_at w xs k)) built

-- That stays, once slot k is written: another slot is as it was, and slot k, where it was empty, gets what is built for it.
module _ {X : Type 0} (w : ℕ) (xs : List Float) (k : ℕ) (ys : List Float) (size : suc (length ys) ≡ w) (fits : k * w + w ≤ length xs)
    (j : ℕ) (read : List Float → X) (built : X) (same : j ≡ k → filled xs (k * w) ≡ false → read (1·0 ∷ ys) ≡ built) where
  pub still_taken : taken_of w (slot_written w xs k ys) j read built ≡ taken_of w xs j read built
  still_taken = by_slot (ℕ_discrete j k)
    where
      other : (j ≡ k → ⊥) → taken_of w (slot_written w xs k ys) j read built ≡ taken_of w xs j read built
      other ne =
          let marks = mark_at w (slot_written w xs k ys) j (omega (arith, size)) in
          let marked = mark_at w xs j (omega (arith, size)) in
          rw (marks, marked) (ap (λ (l : List Float). cond (eq (get_or l 0 nan) 1·0) (read l) built) (written_other w xs k ys size fits j ne))

      itself : (b : Bool) → filled xs (k * w) ≡ b → j ≡ k → taken_of w (slot_written w xs k ys) k read built ≡ taken_of w xs k read built
      itself true full e = ap (λ (l : List Float). taken_of w l k read built) (full_stays w xs k ys full)
      itself false empty e =
          let slot : slot_at w (slot_written w xs k ys) k ≡ 1·0 ∷ ys = written_same w xs k ys size fits ∙ rw empty in
          let mark = mark_at w (slot_written w xs k ys) k (omega (arith, size)) ∙ ap (λ (l : List Float). eq (get_or l 0 nan) 1·0) slot ∙ one_marks in
          rw (mark, slot, empty) (same e empty)

      by_slot : Dec (j ≡ k) → taken_of w (slot_written w xs k ys) j read built ≡ taken_of w xs j read built
      by_slot (no ne) = other ne
      by_slot (yes e) =
          ap (λ (i : ℕ). taken_of w (slot_written w xs k ys) i read built) e
          ∙ itself (filled xs (k * w)) refl e
          ∙ ap (λ (i : ℕ). taken_of w xs i read built) (sym e)
