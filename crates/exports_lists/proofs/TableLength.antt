-- A list as a C function.
--     told                 the call's contract, and the number of its check
--     no_rows, with_rows   with a table, by what is known of its rows: refused with 20, or what the call with the rows comes to
--     c_functions          those three: what a C function is proved by, with no answer
-- Assumes nothing.
use mathlib.Core.Path.{◌≡◌, ap, ◌∙◌}
use Prim.Native.Nat.{ℕ}
use mathlib.Core.List.{List}
use lib.Ieee.{Float}
use Rattle.answer.specs.Given.{Given, answered, refused, status}
use Rattle.arithmetic.specs.Arith.{Arith}
use Rattle.coordinates.specs.declared.lonlat.LonLat.{LonLat}
use Rattle.set.specs.Set.{Set}
use Rattle.place_list.specs.declared.PlaceResult.{PlaceResult}
use Rattle.place_list.specs.Lists.{Called, called, place_list_on}
use Rattle.border.specs.Tables.{rows_given}
use Rattle.border.proofs.Tables.{rows_fit, rows_are, rows_off, rows_20}
use Rattle.exports_lists.specs.Lists.{returned, in_c, list_with}

pub told : (g : Given (Unit {0})) (o : Called) (n : ℕ) (rs : List PlaceResult) (s : Set) → called g rs s ≡ o → n ≡ status g → returned n rs s ≡ in_c o
told g o n rs s e en = ap (λ (k : ℕ). returned k rs s) en ∙ ap in_c e

module _ (A : Arith) (table : List Float) (s : Set) (ps : List LonLat) (rs : List PlaceResult) where
  pub no_rows : (n : ℕ) → refused n ≡ rows_given table → list_with A table s ps rs ≡ called (refused n) rs s
  unfolding list_with
  no_rows n e = rw (rows_off table n e, rows_20 table n e)

  -- the rows that are handed over are the table
  pub with_rows : (rows : List Float) → answered rows ≡ rows_given table → list_with A table s ps rs ≡ place_list_on A rows s ps rs
  unfolding list_with
  with_rows rows e = rw (rows_fit table rows e, rows_are table rows e)

pub ruleset c_functions = (told, no_rows, with_rows)
