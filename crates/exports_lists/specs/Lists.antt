-- A list of positions as a C function: the number that it returns, and the results and the set that it leaves. Definitions only.
use Rattle.std.specs.Prelude.{ℕ, cond, List, eqb, Float, length}
use Rattle.answer.specs.Given.{refused, status}
use Rattle.arithmetic.specs.Arith.{Arith}
use Rattle.coordinates.specs.declared.lonlat.LonLat.{LonLat}
use Rattle.set.specs.Set.{Set}
use Rattle.place_list.specs.declared.PlaceResult.{PlaceResult}
use Rattle.place_list.specs.Lists.{Placed, placed, Called, called, place_list_on}

pub record Returned : Type 0 where
  pub status : ℕ
  pub left : Placed

abbrev pub returned : ℕ → List PlaceResult → Set → Returned
returned r rs s = record { status = r; left = placed rs s }

-- what the call comes to, as C is told of it
abbrev pub in_c : Called → Returned
in_c o = record { status = status o.answer; left = o.left }

-- with a table, which is a pointer and a length in C: "A table reaches a call as exactly 84 numbers", and one of another length gets 20, before anything
-- else is tried, and changes nothing
unfoldable pub list_with : Arith → List Float → Set → List LonLat → List PlaceResult → Called
list_with A table s ps rs = cond (eqb (length table) 84) (place_list_on A table s ps rs) (called (refused 20) rs s)
