-- A step with a table, by what is known of the table's rows. Assumes nothing.
use mathlib.Core.Path.{◌≡◌}
use mathlib.Core.List.{List}
use Prim.Native.Nat.{ℕ}
use lib.Ieee.{Float}
use Rattle.answer.specs.Given.{answered, refused}
use Rattle.arithmetic.specs.Arith.{ieee}
use Rattle.set.specs.Set.{Set}
use Rattle.panel.specs.Step.{panel, step_on}
use Rattle.border.specs.Tables.{rows_given}
use Rattle.border.proofs.Tables.{rows_fit, rows_are, rows_off, rows_20}
use Rattle.exports_panel.specs.Panel.{step_with}

module _ (table : List Float) (s : Set) (b : List ℕ) where
  pub no_rows : (n : ℕ) → refused n ≡ rows_given table → step_with ieee table s b ≡ record { answer = refused n; left = panel b s }
  unfolding step_with
  no_rows n e = rw (rows_off table n e, rows_20 table n e)

  -- the rows that are handed over are the table
  pub with_rows : (rows : List Float) → answered rows ≡ rows_given table → step_with ieee table s b ≡ step_on ieee rows s b
  unfolding step_with
  with_rows rows e = rw (rows_fit table rows e, rows_are table rows e)

-- what `a5_panel_step_with` is proved by, in place of answers
pub ruleset tables = (no_rows, with_rows)
