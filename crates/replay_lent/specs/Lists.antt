-- The first positions and the first results of two arrays lent to `place_list`: the answer, all results and the set that it leaves.
-- Definitions only.
use Rattle.std.specs.Prelude.{ℕ, List, ◌++◌, Float, take, drop}
use Rattle.arithmetic.specs.Arith.{Arith}
use Rattle.coordinates.specs.declared.lonlat.LonLat.{LonLat}
use Rattle.set.specs.Set.{Set}
use Rattle.place_list.specs.declared.PlaceResult.{PlaceResult}
use Rattle.place_list.specs.Lists.{Called, called, place_list_on}

-- what the call came to, with the results behind those that were lent
abbrev pub with_rest : Called → List PlaceResult → Called
with_rest c rest = called c.answer (c.left.results ++ rest) c.left.set

-- the first n positions and the first m results are lent
abbrev pub placed_first : Arith → List Float → Set → List LonLat → ℕ → List PlaceResult → ℕ → Called
placed_first A table s ps n rs m = with_rest (place_list_on A table s (take n ps) (take m rs)) (drop m rs)
