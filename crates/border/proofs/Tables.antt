-- A C function with a table, by what `rows_or_20` gives of it: the rows, which are then the table, or 20. Assumes nothing.
--     rows_fit, rows_are, rows_off, rows_20   what either says of the table
--     with_rows, no_rows                      what a call with the table comes to
--     with_rows_on, no_rows_on                the same of a call on a set
--     tables                                  those four: what a C function with a table is proved by, with no answer
use mathlib.Core.Path.{◌≡◌, refl}
use mathlib.Core.Bool.{Bool, true, false, not}
use mathlib.Core.List.{List}
use Prim.Native.Nat.{ℕ}
use lib.Dec.{eqb}
use lib.Ieee.{Float}
use lib.ListN.{length}
use Rattle.answer.specs.Given.{Given, answered, refused, refuse_if}
use Rattle.set.specs.Set.{Set}
use Rattle.set.specs.Outcome.{Outcome}
use Rattle.border.specs.Tables.{rows_given, with_table, with_table_on}

-- ---- by the test of the length
fits : (b : Bool) (rows table : List Float) → answered rows ≡ refuse_if (not b) 20 (answered table) → (b ≡ true) × (rows ≡ table)
fits true rows table e = (refl, cc)
fits false rows table e = (cc)

is_off : (b : Bool) (n : ℕ) (table : List Float) → refused n ≡ refuse_if (not b) 20 (answered table) → (b ≡ false) × (n ≡ 20)
is_off true n table e = (cc)
is_off false n table e = (refl, cc)

module _ (table : List Float) where
  pub rows_fit : (rows : List Float) → answered rows ≡ rows_given table → eqb (length table) 84 ≡ true
  unfolding with_table
  rows_fit rows e = (fits _ rows table e).0

  pub rows_are : (rows : List Float) → answered rows ≡ rows_given table → rows ≡ table
  unfolding with_table
  rows_are rows e = (fits (eqb (length table) 84) rows table e).1

  pub rows_off : (n : ℕ) → refused n ≡ rows_given table → eqb (length table) 84 ≡ false
  unfolding with_table
  rows_off n e = (is_off _ n table e).0

  pub rows_20 : (n : ℕ) → refused n ≡ rows_given table → n ≡ 20
  unfolding with_table
  rows_20 n e = (is_off (eqb (length table) 84) n table e).1

-- ---- a call that is lent no set
module _ {X : Type 0} (call : List Float → Given X) (table : List Float) where
  pub no_rows : (n : ℕ) → refused n ≡ rows_given table → with_table call table ≡ refused n
  unfolding with_table
  no_rows n e = rw (rows_off table n e, rows_20 table n e)

  pub with_rows : (rows : List Float) → answered rows ≡ rows_given table → with_table call table ≡ call rows
  unfolding with_table
  with_rows rows e = rw (rows_fit table rows e, rows_are table rows e)

-- ---- a call on a set
module _ {X : Type 0} (call : List Float → Set → Outcome X) (table : List Float) (s : Set) where
  pub no_rows_on : (n : ℕ) → refused n ≡ rows_given table → with_table_on call table s ≡ record { answer = refused n; set = s }
  unfolding with_table_on
  no_rows_on n e = rw (rows_off table n e, rows_20 table n e) refl

  pub with_rows_on : (rows : List Float) → answered rows ≡ rows_given table → with_table_on call table s ≡ call rows s
  unfolding with_table_on
  with_rows_on rows e = rw (rows_fit table rows e, rows_are table rows e) refl

pub ruleset tables = (no_rows, with_rows, no_rows_on, with_rows_on)
