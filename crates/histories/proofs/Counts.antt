-- How many of a store's slots are among some: one slot is one, and the face slots of a call are one, or two if it is reflected. Assumes nothing.
use mathlib.Core.Path.{◌≡◌, refl, ap, ap₂, ◌∙◌}
use mathlib.Core.Bool.{Bool, true, false, cond, ◌||◌, or-true, or-false}
use Prim.Native.Nat.{ℕ, zero, suc, ◌+◌, ◌<◌, ◌≤◌}
use native.Mathlib.Decide.{ℕ_discrete}
use native.Mathlib.Omega.{arith}
use lib.Dec.{eqb}
use borrow.Author.Tests.{eq-eqb, ne_eqb}
use Rattle.set.specs.Sizes.{FACE_SLOTS}
use Rattle.histories.specs.Since.{Slots, faces_at}
use Rattle.histories.specs.Consequences.{count}

pub count_same : (n : ℕ) (u v : Slots) → ((k : ℕ) → k < n → u k ≡ v k) → count n u ≡ count n v
unfolding count
count_same zero u v e = refl
count_same (suc n) u v e = ap₂ (λ (b : Bool) (m : ℕ). cond b (suc m) m) (e n (omega arith)) (count_same n u v (λ k h. e k (omega arith)))

count_none : (n : ℕ) → count n (λ k. false) ≡ 0
unfolding count
count_none zero = refl
count_none (suc n) = count_none n

-- one slot more, which is not yet among them
module _ (u : Slots) (j : ℕ) (new : u j ≡ false) where
  count_below : (n : ℕ) → n ≤ j → count n (λ k. u k || eqb k j) ≡ count n u
  count_below n h = count_same n _ u (λ k l. rw (ne_eqb k j (omega arith)) (or-false (u k)))

  count_more : (n : ℕ) → j < n → count n (λ k. u k || eqb k j) ≡ suc (count n u)
  unfolding count
  count_more zero h = absurd (omega arith)
  count_more (suc n) h = go (ℕ_discrete n j) (count_more n)
    where
      go : Dec (n ≡ j) → (j < n → count n (λ k. u k || eqb k j) ≡ suc (count n u))
          → cond (u n || eqb n j) (suc (count n (λ k. u k || eqb k j))) (count n (λ k. u k || eqb k j)) ≡ suc (cond (u n) (suc (count n u)) (count n u))
      go (yes e) before = rw (eq-eqb n j e, or-true, ap u e ∙ new) (ap suc (count_below n (omega arith)))
      go (no ne) before = rw (ne_eqb n j ne, or-false, before (omega arith)) (both (u n))
        where
          both : (b : Bool) → cond b (suc (suc (count n u))) (suc (count n u)) ≡ suc (cond b (suc (count n u)) (count n u))
          both true = refl
          both false = refl

pub count_one : (n j : ℕ) → j < n → count n (λ k. eqb k j) ≡ 1
count_one n j h = count_more (λ k. false) j refl n h ∙ ap suc (count_none n)

pub count_faces : (i : ℕ) (r : Bool) → i < 10 → count FACE_SLOTS (faces_at i r) ≡ cond r 2 1
count_faces i false h = count_one FACE_SLOTS i (omega arith)
count_faces i true h =
    count_more (λ k. eqb k (i + 10)) (i + 20) (ne_eqb (i + 20) (i + 10) (omega arith)) FACE_SLOTS (omega arith)
    ∙ ap suc (count_one FACE_SLOTS (i + 10) (omega arith))
