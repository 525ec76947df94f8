-- The strikes of the ring: with one more at the end, and with those dropped that are old.
-- Assumes nothing.
use mathlib.Core.Path.{◌≡◌, refl, ◌∙◌, ap}
use mathlib.Core.List.{List, [], ◌∷◌, ◌++◌}
use Prim.Native.Nat.{ℕ, zero, suc, ◌+◌, ◌-◌, ◌%◌, ◌<◌, ◌≤◌}
use native.Mathlib.Omega.{arith}
use lib.Dec.{leb}
use lib.ListN.{length, get_or, set}
use lib.Seq.{get_or-set_same, get_or-set_other}
use Rattle.window.specs.Window.{MOST, SPAN}
use Rattle.window.specs.Addition.{lower, next, remain, lowered}
use Rattle.window.specs.Kept.{strike}
use Rattle.window.specs.EveryList.{ring}
use Rattle.window.proofs.Recent.{either, Ordered, drop_oldest}
use Rattle.window.proofs.Counted.{Counted, one_less}

pub ring_length : (ms os : List ℕ) (at n : ℕ) → length (ring ms os at n) ≡ n
unfolding ring
ring_length ms os at zero = refl
ring_length ms os at (suc n) = ap suc (ring_length ms os (next at) n)

-- ---- places: p is n behind `at`
same_place : (at p : ℕ) → at < MOST → p ≡ (at + 0) % MOST → p ≡ at
same_place at p l e = omega arith

other_place : (at n p : ℕ) → at < MOST → suc n < MOST → p ≡ (at + suc n) % MOST → at ≡ p → ⊥
other_place at n p l k e z = omega arith

next_place : (at n p : ℕ) → p ≡ (at + suc n) % MOST → p ≡ (next at + n) % MOST
next_place at n p e = omega arith

next_in : (at : ℕ) → next at < MOST
next_in at = omega arith

pub ring_more : (ms os : List ℕ) (m o : ℕ) → length ms ≡ MOST → length os ≡ MOST → (at n p : ℕ) → at < MOST → n < MOST → p ≡ (at + n) % MOST
    → ring (set ms p m) (set os p o) at (suc n) ≡ ring ms os at n ++ (strike m o ∷ [])
unfolding ring
ring_more ms os m o lm lo at zero p l k e =
    let z = same_place at p l e in
    let em : get_or (set ms p m) at 0 ≡ m = ap (λ (i : ℕ). get_or (set ms i m) at 0) z ∙ get_or-set_same ms at m 0 (omega arith) in
    let eo : get_or (set os p o) at 0 ≡ o = ap (λ (i : ℕ). get_or (set os i o) at 0) z ∙ get_or-set_same os at o 0 (omega arith) in
    λ i. strike (em i) (eo i) ∷ []
ring_more ms os m o lm lo at (suc n) p l k e =
    let z = other_place at n p l k e in
    let rest = ring_more ms os m o lm lo (next at) n p (next_in at) (omega arith) (next_place at n p e) in
    λ i. strike (get_or-set_other ms p at m 0 z i) (get_or-set_other os p at o 0 z i) ∷ rest i

-- ---- dropping
remain_most : (ms : List ℕ) (m n at : ℕ) → remain ms m n at ≤ n
unfolding remain
remain_most ms m zero at = omega arith
remain_most ms m (suc n) at = either (leb SPAN (m - get_or ms at 0)) (λ t. rw t (omega (arith, remain_most ms m n (next at)))) (λ t. rw t (omega arith))

one_further : (at n k : ℕ) → k ≤ n → (at + (suc n - k)) % MOST ≡ (next at + (n - k)) % MOST
one_further at n k h = omega arith

no_further : (at n : ℕ) → at < MOST → (at + (suc n - suc n)) % MOST ≡ at
no_further at n h = omega arith

one_gone : (n k : ℕ) → k ≤ n → suc n - k ≡ suc (n - k)
one_gone n k h = omega arith

none_gone : (n : ℕ) → suc n - suc n ≡ 0
none_gone n = omega arith

module _ (ms os : List ℕ) (m : ℕ) where
  -- how many of n strikes from place `at` on are left
  abbrev left : ℕ → ℕ → ℕ
  left n at = remain ms m n at

  pub ring_drops : (n at : ℕ) → at < MOST → ring ms os ((at + (n - left n at)) % MOST) (left n at) ≡ drop_oldest m (ring ms os at n)
  unfolding remain ring
  ring_drops zero at h = refl
  ring_drops (suc n) at h =
      let k = left n (next at) in
      either (leb SPAN (m - get_or ms at 0))
      (λ t. simp t (ap (λ (i : ℕ). ring ms os i k) (one_further at n k (remain_most ms m n (next at))) ∙ ring_drops n (next at) (omega arith)))
      (λ t. simp t (ap (λ (i : ℕ). ring ms os i (suc n)) (no_further at n h)))

  pub counts_drop : (n at : ℕ) (counts : List ℕ) (l : ℕ) → Ordered l (ring ms os at n) → Counted counts (ring ms os at n)
      → Counted (lowered os (n - left n at) at counts) (drop_oldest m (ring ms os at n))
  unfolding remain lowered ring
  counts_drop zero at counts l r c = c
  counts_drop (suc n) at counts l r c =
      let s = strike (get_or ms at 0) (get_or os at 0) in
      either (leb SPAN (m - s.minute))
      (λ t. rw (t, one_gone n (left n (next at)) (remain_most ms m n (next at)))
      (counts_drop n (next at) (lower counts s.origin) s.minute r.2 (one_less counts s (ring ms os (next at) n) r.1 c)))
      (λ t. rw (t, none_gone n) c)
