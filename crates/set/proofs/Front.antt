-- A list that starts with another: its first elements are that list. Over any element type. Assumes nothing.
use mathlib.Core.Path.{◌≡◌, ap, ◌∙◌}
use mathlib.Core.List.{List, ◌++◌}
use Prim.Native.Nat.{ℕ, ◌+◌, ◌≤◌}
use native.Mathlib.Omega.{arith}
use lib.ListN.{length, take, length-append}
use lib.Seq.{take_at, length-take-le}

module _ {A : Type 0} (xs front rest : List A) (n : ℕ) (e : xs ≡ front ++ rest) (l : length front ≡ n) where
  pub front_fits : n ≤ length xs
  front_fits = omega (arith, simp length-append at (ap length e))

  pub front_length : length (take n xs) ≡ n
  front_length = length-take-le n xs front_fits

  pub front_is : take n xs ≡ front
  front_is = ap (take n) e ∙ take_at front rest n l
