-- A list that is filled from the front until it is another: one element further, and all of it. Assumes nothing.
use mathlib.Core.Path.{◌≡◌, sym, ◌∙◌}
use mathlib.Core.List.{List, [], ◌∷◌, ◌++◌}
use Prim.Native.Nat.{ℕ, ◌+◌, ◌≤◌, ◌<◌}
use native.Mathlib.Numerals.{add-one}
use lib.ListN.{length, get_or, set, take}
use lib.Seq.{take_all, take-suc, take-suc-set}

module _ {A : Type 0} where
  -- z is any element
  pub filled_on : (whole front : List A) (k : ℕ) (x z : A) → k < length whole → k < length front → take k front ≡ take k whole → x ≡ get_or whole k z
      → take (k + 1) (set front k x) ≡ take (k + 1) whole
  filled_on whole front k x z l m e f =
      rw (add-one k) (take-suc-set front k x m ∙ (λ i. e i ++ (f i ∷ [])) ∙ sym (take-suc whole k z l))

  pub filled_all : (whole front : List A) (k : ℕ) → length whole ≤ k → length front ≤ k → take k front ≡ take k whole → front ≡ whole
  filled_all whole front k l m e = sym (take_all k front m) ∙ e ∙ take_all k whole l
