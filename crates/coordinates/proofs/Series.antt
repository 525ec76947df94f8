-- Over whole numbers the authalic recurrence is the sum of coefficient times term (`sum_of_terms`), and the Rust's steps are not
-- (`rust_is_not_the_sum`). Assumes nothing. The idea is Clenshaw's. The recurrence passes the coefficients from the last to the first and
-- keeps two numbers, p and the q before it. When those from term n + 1 on are passed, p · term (n + 1) − q · term n is their sum
-- (`passed`), by the terms' own rule. When all are passed, n is 0, and that is p.
use mathlib.Core.Path.{◌≡◌, refl, sym, ◌∙◌, ap}
use mathlib.Core.List.{List, [], ◌∷◌}
use Prim.Native.Nat.{ℕ, suc}
use lib.IntN.{ℤ, pos, one, neg_ℤ, ◌+ℤ◌, ◌-ℤ◌, ◌*ℤ◌, +ℤ_comm, +ℤ_idl, +ℤ_idr, zero-*ℤ, *ℤ-zero, *ℤ-one, *ℤ_comm, pos-ne-negsuc}
use Rattle.arithmetic.proofs.WholeNumbers.{swap_last, sum_times, difference_times, times_difference, times_assoc}
use Rattle.coordinates.specs.Authalic.{recurrence}
use Rattle.coordinates.specs.Series.{term, products, sum, SumOfTerms, rust_recurrence, RustIsNotTheSum}

record Kept : Type 0 where
  p : ℤ
  q : ℤ

abbrev none : Kept
none = record { p = pos 0; q = pos 0 }

regroup : (a b c d : ℤ) → a +ℤ b +ℤ c +ℤ d ≡ c +ℤ (a +ℤ d +ℤ b)
regroup a b c d = swap_last (a +ℤ b) c d ∙ ap (λ t. t +ℤ c) (swap_last a b d) ∙ +ℤ_comm (a +ℤ d +ℤ b) c

module _ (x : ℤ) where
  -- the two numbers after coefficients have been passed, the last of the list first
  after : Kept → List ℤ → Kept
  after k [] = k
  after k (c ∷ cs) = let l = after k cs in record { p = x *ℤ l.p -ℤ l.q +ℤ c; q = l.p }

  abbrev worth : Kept → ℕ → ℤ
  worth k n = k.p *ℤ term x (suc n) -ℤ k.q *ℤ term x n

  -- one more coefficient
  step : (k : Kept) (c : ℤ) (n : ℕ) → worth (after k (c ∷ [])) n ≡ c *ℤ term x (suc n) +ℤ worth k (suc n)
  unfolding term after
  step k c n =
      let p = k.p in
      let q = k.q in
      let t = term x (suc n) in
      let u = term x n in
      let apart : (x *ℤ p -ℤ q +ℤ c) *ℤ t ≡ x *ℤ p *ℤ t -ℤ q *ℤ t +ℤ c *ℤ t =
      sum_times (x *ℤ p -ℤ q) c t ∙ ap (λ y. y +ℤ c *ℤ t) (difference_times (x *ℤ p) q t)
      in
      let turned : x *ℤ p *ℤ t ≡ p *ℤ (x *ℤ t) = ap (λ y. y *ℤ t) (*ℤ_comm x p) ∙ times_assoc p x t in
      rw (apart, turned, times_difference p (x *ℤ t) u) (regroup (p *ℤ (x *ℤ t)) (neg_ℤ (q *ℤ t)) (c *ℤ t) (neg_ℤ (p *ℤ u)))

  passed : (cs : List ℤ) (n : ℕ) → worth (after none cs) n ≡ sum (products x (suc n) cs)
  unfolding after sum products
  passed [] n = rw (zero-*ℤ (term x (suc n)), zero-*ℤ (term x n)) refl
  passed (c ∷ cs) n = step (after none cs) c n ∙ ap (λ s. c *ℤ term x (suc n) +ℤ s) (passed cs (suc n))

  -- term zero is 0 and term one is 1
  all_passed : (cs : List ℤ) → (after none cs).p ≡ sum (products x 1 cs)
  unfolding term one
  all_passed cs =
      let k = after none cs in
      let whole : worth k 0 ≡ k.p = rw (*ℤ-one k.p, *ℤ-zero k.q, +ℤ_idr k.p) refl in
      sym whole ∙ passed cs 0

  -- the recurrence starts with the last two passed: nothing stands before them
  last_two : (c4 c5 : ℤ) → after none (c4 ∷ c5 ∷ []) ≡ record { p = x *ℤ c5 +ℤ c4; q = c5 }
  unfolding after
  last_two c4 c5 =
      let last : x *ℤ pos 0 -ℤ pos 0 +ℤ c5 ≡ c5 = rw (*ℤ-zero x) (+ℤ_idl c5) in
      ap (λ c. record { p = x *ℤ c -ℤ pos 0 +ℤ c4; q = c }) last ∙ ap (λ s. record { p = s +ℤ c4; q = c5 }) (+ℤ_idr (x *ℤ c5))

pub sum_of_terms : SumOfTerms
unfolding recurrence after
sum_of_terms x c0 c1 c2 c3 c4 c5 =
    ap (λ k. (after x k (c0 ∷ c1 ∷ c2 ∷ c3 ∷ [])).p) (sym (last_two x c4 c5)) ∙ all_passed x (c0 ∷ c1 ∷ c2 ∷ c3 ∷ c4 ∷ c5 ∷ [])

-- ---- the Rust's steps

zeros : (a b : ℤ) → pos 0 *ℤ a ≡ pos 0 *ℤ b
zeros a b = zero-*ℤ a ∙ sym (zero-*ℤ b)

rust_multiplier_zero : (c0 c1 c2 c3 c4 c5 : ℤ) → rust_recurrence (pos 0) c0 c1 c2 c3 c4 c5 ≡ recurrence ◌+ℤ◌ ◌-ℤ◌ ◌*ℤ◌ (pos 0) c0 c1 c2 c3 c4 c5
unfolding recurrence rust_recurrence
rust_multiplier_zero c0 c1 c2 c3 c4 c5 =
    let s1 = pos 0 *ℤ c5 +ℤ c4 in
    let rust = pos 0 *ℤ s1 +ℤ c3 in
    let full = pos 0 *ℤ s1 -ℤ c5 +ℤ c3 in
    let third : ℤ → ℤ = λ s2. pos 0 *ℤ s2 -ℤ s1 +ℤ c2 in
    let fourth : ℤ → ℤ = λ s2. pos 0 *ℤ third s2 -ℤ s2 +ℤ c1 in
    ap (λ z. z -ℤ third rust +ℤ c0) (zeros (fourth rust) (fourth full)) ∙ ap (λ z. pos 0 *ℤ fourth full -ℤ (z -ℤ s1 +ℤ c2) +ℤ c0) (zeros rust full)

rust_sixth_zero : (x c0 c1 c2 c3 c4 : ℤ) → rust_recurrence x c0 c1 c2 c3 c4 (pos 0) ≡ recurrence ◌+ℤ◌ ◌-ℤ◌ ◌*ℤ◌ x c0 c1 c2 c3 c4 (pos 0)
unfolding recurrence rust_recurrence
rust_sixth_zero x c0 c1 c2 c3 c4 =
    let s1 = x *ℤ pos 0 +ℤ c4 in
    let third : ℤ → ℤ = λ s2. x *ℤ s2 -ℤ s1 +ℤ c2 in
    let fourth : ℤ → ℤ = λ s2. x *ℤ third s2 -ℤ s2 +ℤ c1 in
    ap (λ z. x *ℤ fourth (z +ℤ c3) -ℤ third (z +ℤ c3) +ℤ c0) (sym (+ℤ_idr (x *ℤ s1)))

pub rust_is_not_the_sum : RustIsNotTheSum
unfolding rust_recurrence sum products term
rust_is_not_the_sum = record {
  not_the_sum = λ same. pos-ne-negsuc 0 0 (sym (same (pos 1) (pos 0) (pos 0) (pos 0) (pos 0) (pos 0) (pos 1)));
  given = refl;
  wanted = refl;
  multiplier_zero = λ c0 c1 c2 c3 c4 c5. rust_multiplier_zero c0 c1 c2 c3 c4 c5 ∙ sum_of_terms (pos 0) c0 c1 c2 c3 c4 c5;
  sixth_zero = λ x c0 c1 c2 c3 c4. rust_sixth_zero x c0 c1 c2 c3 c4 ∙ sum_of_terms x c0 c1 c2 c3 c4 (pos 0);
}
