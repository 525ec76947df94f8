-- A table at the C border, where it is a pointer and a length. Definitions only.
use Rattle.std.specs.Prelude.{not, cond, List, eqb, Float, length}
use Rattle.answer.specs.Given.{Given, answered, refused, refuse_if}
use Rattle.set.specs.Set.{Set}
use Rattle.set.specs.Outcome.{Outcome}

-- a call with a table, "exactly 84 numbers": one of another length gets 20 before anything else is tried
unfoldable pub with_table : {X : Type 0} → (List Float → Given X) → List Float → Given X
with_table call table = refuse_if (not (eqb (length table) 84)) 20 (call table)

-- the numbers of such a table
abbrev pub rows_given : List Float → Given (List Float)
rows_given table = with_table answered table

-- The same of a call on a set, which then stays as it was. `list_with`, `step_with` and `region_with` say it of the records that they leave: one
-- definition for all would take what is left of a refused call as an argument, and is no shorter than a `cond` in each.
unfoldable pub with_table_on : {X : Type 0} → (List Float → Set → Outcome X) → List Float → Set → Outcome X
with_table_on call table s = cond (eqb (length table) 84) (call table s) (record { answer = refused 20; set = s })
