-- Document 01, "Calls and their numbers": the checks of the calls on a set. "Those that apply are tried in table order, but each
-- number is tried for 5 and then 6 before the next one." Paper 10: "each tests it by 21 and 22 right after 3." Definitions only.
use Rattle.std.specs.Prelude.{ℕ, List, ltb, Float}
use Rattle.answer.specs.Given.{Given, passed, refuse_if, and_then}
use Rattle.arithmetic.specs.Arith.{Arith}
use Rattle.origin.specs.Table.{check_table}
use Rattle.set.specs.Set.{Set, check_set}

-- an origin id above 11 gives 4
unfoldable pub check_origin : ℕ → Given (Unit {0})
check_origin o = refuse_if (ltb 11 o) 4 passed

-- 1, 2, 3, 4
abbrev pub check_call : Set → ℕ → Given (Unit {0})
check_call s o =
    and_then (check_set s)
    (check_origin o)

-- 1, 2, 3, 21, 22
abbrev pub check_with : Arith → List Float → Set → Given (Unit {0})
check_with A table s =
    and_then (check_set s)
    (check_table A table)
