-- The authalic series without rounding, over the whole numbers ℤ (Paper 8): a sum of coefficient times term. Definitions only.
use Rattle.std.specs.Prelude.{◌≡◌, List, [], ◌∷◌, ℕ, zero, suc, ℤ, pos, negsuc, ◌+ℤ◌, ◌-ℤ◌, ◌*ℤ◌}
use Rattle.coordinates.specs.Authalic.{recurrence}

-- "Term zero is 0, term one is 1, and each next one is multiplier times the last minus the one before." The multiplier is x.
unfoldable pub term : ℤ → ℕ → ℤ
term x zero = pos 0
term x (suc zero) = pos 1
term x (suc (suc n)) = x *ℤ term x (suc n) -ℤ term x n

-- "Coefficient times term": the first coefficient with term n, the next with term n + 1, and so on.
unfoldable pub products : ℤ → ℕ → List ℤ → List ℤ
products x n [] = []
products x n (c ∷ cs) = (c *ℤ term x n) ∷ products x (suc n) cs

unfoldable pub sum : List ℤ → ℤ
sum [] = pos 0
sum (a ∷ rest) = a +ℤ sum rest

-- "For every six coefficients and every multiplier, the recurrence equals the sum of coefficient times term. .. The coefficients go with
-- terms one to six."
abbrev pub SumOfTerms : Type 0
SumOfTerms =
    (x c0 c1 c2 c3 c4 c5 : ℤ) →
    recurrence ◌+ℤ◌ ◌-ℤ◌ ◌*ℤ◌ x c0 c1 c2 c3 c4 c5 ≡ sum (products x 1 (c0 ∷ c1 ∷ c2 ∷ c3 ∷ c4 ∷ c5 ∷ []))

-- The five steps as the Rust has them: the second lacks "− c[5]".
unfoldable pub rust_recurrence : ℤ → ℤ → ℤ → ℤ → ℤ → ℤ → ℤ → ℤ
rust_recurrence x c0 c1 c2 c3 c4 c5 =
    let s1 = x *ℤ c5 +ℤ c4 in
    let s2 = x *ℤ s1 +ℤ c3 in
    let s3 = x *ℤ s2 -ℤ s1 +ℤ c2 in
    let s4 = x *ℤ s3 -ℤ s2 +ℤ c1 in
    x *ℤ s4 -ℤ s3 +ℤ c0

-- They are not that sum. With the multiplier 1 and the coefficients 0, 0, 0, 0, 0, 1 they give −1, and the sum is 0. No smaller numbers
-- show it: where the multiplier or the sixth coefficient is 0, they are the sum.
pub record RustIsNotTheSum : Type 0 where
  pub not_the_sum :
      ((x c0 c1 c2 c3 c4 c5 : ℤ) → rust_recurrence x c0 c1 c2 c3 c4 c5 ≡ sum (products x 1 (c0 ∷ c1 ∷ c2 ∷ c3 ∷ c4 ∷ c5 ∷ []))) → ⊥
  pub given : rust_recurrence (pos 1) (pos 0) (pos 0) (pos 0) (pos 0) (pos 0) (pos 1) ≡ negsuc 0
  pub wanted : sum (products (pos 1) 1 (pos 0 ∷ pos 0 ∷ pos 0 ∷ pos 0 ∷ pos 0 ∷ pos 1 ∷ [])) ≡ pos 0
  pub multiplier_zero :
      (c0 c1 c2 c3 c4 c5 : ℤ) →
      rust_recurrence (pos 0) c0 c1 c2 c3 c4 c5 ≡ sum (products (pos 0) 1 (c0 ∷ c1 ∷ c2 ∷ c3 ∷ c4 ∷ c5 ∷ []))
  pub sixth_zero :
      (x c0 c1 c2 c3 c4 : ℤ) →
      rust_recurrence x c0 c1 c2 c3 c4 (pos 0) ≡ sum (products x 1 (c0 ∷ c1 ∷ c2 ∷ c3 ∷ c4 ∷ pos 0 ∷ []))
