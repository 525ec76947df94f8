-- Document 01, "Triangles and calls": "A refused call uses none, with all that it carries; in an answered one, each place or unplace that
-- it carries counts for itself". What a region uses. Definitions only.
use Rattle.std.specs.Prelude.{ℕ, List, Float, length}
use Rattle.answer.specs.Given.{Given, answered, bind}
use Rattle.arithmetic.specs.Arith.{Arith}
use Rattle.coordinates.specs.declared.lonlat.LonLat.{LonLat}
use Rattle.set.specs.Set.{Set}
use Rattle.stores.specs.declared.used.Used.{Used}
use Rattle.place_list.specs.Uses.{used_in_turn}
use Rattle.region_work.specs.Region.{region_given}

-- with m lent point places: what its positions use in turn, if it answers
abbrev pub used_by_region : Arith → List Float → Set → List LonLat → ℕ → Given (List Used)
used_by_region A table s ps m =
    bind (region_given A table s ps (length ps) m) λ r.
    answered (used_in_turn A table s ps)
