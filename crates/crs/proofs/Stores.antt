-- Lists whose first elements are in use, over any element type: what a run of stores just behind them leaves, and what is still behind them. Assumes nothing.
use mathlib.Core.Path.{◌≡◌, sym, ap, ◌∙◌}
use mathlib.Core.List.{List, ◌++◌}
use Prim.Native.Nat.{ℕ, ◌+◌, ◌-◌, ◌≤◌}
use native.Mathlib.Omega.{arith}
use lib.ListN.{length, take, drop, length-append, length-take, take-append-drop}
use lib.Seq.{sets, sets-eq, take_at, drop_at, drop-drop, length-take-le}

module _ {A : Type 0} where
  module _ (xs : List A) (at : ℕ) (vs : List A) (h : at + length vs ≤ length xs) where
    stored : sets xs at vs ≡ (take at xs ++ vs) ++ drop (at + length vs) xs
    stored = sets-eq vs xs at h

    in_front : length (take at xs ++ vs) ≡ at + length vs
    in_front = simp (length-append, length-take) (omega arith)

    pub take_sets : take (at + length vs) (sets xs at vs) ≡ take at xs ++ vs
    take_sets = ap (take (at + length vs)) stored ∙ take_at (take at xs ++ vs) (drop (at + length vs) xs) (at + length vs) in_front

    pub drop_sets : drop (at + length vs) (sets xs at vs) ≡ drop (at + length vs) xs
    drop_sets = ap (drop (at + length vs)) stored ∙ drop_at (take at xs ++ vs) (drop (at + length vs) xs) (at + length vs) in_front

  -- two lists that agree behind a place agree behind every later one
  pub drop_later : (xs ys : List A) (m n : ℕ) → m ≤ n → drop m xs ≡ drop m ys → drop n xs ≡ drop n ys
  drop_later xs ys m n h e =
      let f : m + (n - m) ≡ n = omega arith in
      sym (ap (λ (k : ℕ). drop k xs) f) ∙ sym (drop-drop (n - m) m xs) ∙ ap (drop (n - m)) e ∙ drop-drop (n - m) m ys ∙ ap (λ (k : ℕ). drop k ys) f

  -- a list by its front and what is behind
  pub joined : (xs ys front : List A) (n : ℕ) → take n xs ≡ front → drop n xs ≡ drop n ys → xs ≡ front ++ drop n ys
  joined xs ys front n e f = sym (take-append-drop n xs) ∙ cc

  pub front_length : (xs front : List A) (n : ℕ) → n ≤ length xs → take n xs ≡ front → n ≡ length front
  front_length xs front n h e = sym (length-take-le n xs h) ∙ ap length e
