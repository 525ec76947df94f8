-- Open's three ways: refused by the checks, refused for its rows, opened. Assumes nothing.
use mathlib.Core.Path.{◌≡◌, ◌∙◌}
use mathlib.Core.Bool.{not}
use mathlib.Core.List.{List}
use Prim.Native.Nat.{ℕ}
use lib.Dec.{eqb}
use lib.ListN.{length}
use lib.Ieee.{Float}
use borrow.Author.Tests.{eq-eqb, ne_eqb}
use Rattle.answer.specs.Given.{refused, passed, refuse_if, and_then}
use Rattle.arithmetic.specs.Arith.{Arith, ieee}
use Rattle.origin.specs.Origins.{ORIGINS}
use Rattle.origin.proofs.BuiltInPasses.{built_in_passes}
use Rattle.origin.specs.Table.{check_table}
use Rattle.crs.specs.Frame.{frame_rows}
use Rattle.set.specs.Sizes.{FRAME}
use Rattle.answer.proofs.Given.{then_then, then_pass, then_refused}
use Rattle.set.specs.Set.{Set, check_set}
use Rattle.set.specs.Checks.{check_with}
use Rattle.set.specs.Open.{open_given}

module _ (A : Arith) (table : List Float) (s : Set) where
  -- its checks, and then its rows
  open_is : open_given A table s ≡ and_then (check_with A table s) (refuse_if (not (eqb (length (frame_rows A table)) FRAME)) 7 passed)
  unfolding open_given
  open_is = then_then (check_set s) (check_table A table) _

  pub open_refused : (n : ℕ) → check_with A table s ≡ refused n → open_given A table s ≡ refused n
  open_refused n e = open_is ∙ then_refused _ _ n e

  pub open_rows : check_with A table s ≡ passed → (length (frame_rows A table) ≡ FRAME → ⊥) → open_given A table s ≡ refused 7
  open_rows e h = open_is ∙ rw (e, ne_eqb _ _ h)

  pub open_opened : check_with A table s ≡ passed → length (frame_rows A table) ≡ FRAME → open_given A table s ≡ passed
  open_opened e h = open_is ∙ rw (e, eq-eqb _ _ h)

-- the built-in table passes, so that its check may be left out
pub built_in_check : (s : Set) → check_with ieee ORIGINS s ≡ check_set s
built_in_check s = then_pass (check_set s) (check_table ieee ORIGINS) built_in_passes
