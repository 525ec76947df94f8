-- The library's sum, and two lists of numbers of the same length, place by place, and their sums. Assumes nothing.
use mathlib.Core.Path.{◌≡◌, refl}
use mathlib.Core.Logic.{◌⊎◌, inl, inr, ⊎_elim}
use mathlib.Core.Bool.{Bool, true, false}
use mathlib.Core.List.{List, [], ◌∷◌, map}
use Prim.Native.Nat.{ℕ, zero, suc, ◌≤◌, ◌<◌, zero-le}
use native.Mathlib.Omega.{arith}
use lib.Dec.{ltb}
use lib.ListN.{length}
use borrow.Author.Tests.{ltb-true, ltb-false}
use Rattle.std.specs.List.{sum_by}
use Rattle.std.proofs.lemmas.List.Recursion.{is_sum_by}
use Rattle.turns.specs.Turns.{sum}
use Rattle.turns.specs.Fair.{of}

-- the sum of a number for each channel, as the library's `map` and `sum` add it up
pub sum_by_is : (f : ℕ → ℕ) (ns : List ℕ) → sum (map f ns) ≡ sum_by f ns
sum_by_is f ns = is_sum_by (λ (l : List ℕ). sum (map f l)) f refl (λ x xs. refl) ns

-- one is less at some place, or the other is at none
pub less_somewhere : (xs ys : List ℕ) → length xs ≡ length ys → ((j : ℕ) × (of xs j < of ys j)) ⊎ ((k : ℕ) → of ys k ≤ of xs k)
less_somewhere [] [] e = inr (λ k. zero-le)
less_somewhere [] (y ∷ ys) e = absurd (omega arith)
less_somewhere (x ∷ xs) [] e = absurd (omega arith)
less_somewhere (x ∷ xs) (y ∷ ys) e = go (less_somewhere xs ys (omega arith)) (ltb x y) refl
  where
    all : y ≤ x → ((k : ℕ) → of ys k ≤ of xs k) → (k : ℕ) → of (y ∷ ys) k ≤ of (x ∷ xs) k
    all h f zero = h
    all h f (suc k) = f k

    go :
        ((j : ℕ) × (of xs j < of ys j)) ⊎ ((k : ℕ) → of ys k ≤ of xs k) →
        (b : Bool) →
        ltb x y ≡ b →
        ((j : ℕ) × (of (x ∷ xs) j < of (y ∷ ys) j)) ⊎ ((k : ℕ) → of (y ∷ ys) k ≤ of (x ∷ xs) k)
    go behind true h = inl (0, ltb-true x y h)
    go behind false h = ⊎_elim (λ f. inl (suc f.0, f.1)) (λ f. inr (all (ltb-false x y h) f)) behind

-- nowhere more and somewhere less: the sum is less
sum_most : (xs ys : List ℕ) → length xs ≡ length ys → ((k : ℕ) → of xs k ≤ of ys k) → sum xs ≤ sum ys
sum_most [] [] e h = zero-le
sum_most [] (y ∷ ys) e h = absurd (omega arith)
sum_most (x ∷ xs) [] e h = absurd (omega arith)
sum_most (x ∷ xs) (y ∷ ys) e h = omega (arith, h 0, sum_most xs ys (omega arith) (λ k. h (suc k)))

pub sum_less : (xs ys : List ℕ) → length xs ≡ length ys → ((k : ℕ) → of xs k ≤ of ys k) → (i : ℕ) → of xs i < of ys i → sum xs < sum ys
sum_less [] [] e h i l = absurd (omega arith)
sum_less [] (y ∷ ys) e h i l = absurd (omega arith)
sum_less (x ∷ xs) [] e h i l = absurd (omega arith)
sum_less (x ∷ xs) (y ∷ ys) e h zero l = omega (arith, l, sum_most xs ys (omega arith) (λ k. h (suc k)))
sum_less (x ∷ xs) (y ∷ ys) e h (suc i) l = omega (arith, h 0, sum_less xs ys (omega arith) (λ k. h (suc k)) i l)
