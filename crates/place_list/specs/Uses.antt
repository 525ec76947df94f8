-- Document 01, "Triangles and calls": "A refused call uses none, with all that it carries; in an answered one, each place or unplace that
-- it carries counts for itself, and a refused one uses none." What a list of positions uses, in turn. Definitions only.
use Rattle.std.specs.Prelude.{ℕ, List, [], ◌∷◌, Float, length}
use Rattle.answer.specs.Given.{Given, answered, refused, and_then}
use Rattle.arithmetic.specs.Arith.{Arith}
use Rattle.coordinates.specs.declared.lonlat.LonLat.{LonLat}
use Rattle.set.specs.Set.{Set}
use Rattle.stores.specs.declared.used.Used.{Used}
use Rattle.dodecahedron.specs.Work.{used_of}
use Rattle.dodecahedron.specs.Calls.{place_given, place_on}
use Rattle.place_list.specs.Lists.{check_list}

-- what one position uses, before those that follow
abbrev pub counted : Given Used → List Used → List Used
counted (refused n) us = us
counted (answered u) us = u ∷ us

module _ (A : Arith) (table : List Float) where
  -- what the answered places of a list use, each on the set that the position before has left
  abbrev pub used_in_turn : Set → List LonLat → List Used
  used_in_turn s [] = []
  used_in_turn s (p ∷ ps) = counted (used_of (place_given A table s p)) (used_in_turn (place_on A table s p).set ps)

  -- what the call uses, with so many results; "a refused call uses none, with all that it carries"
  abbrev pub used_by_list : Set → List LonLat → ℕ → Given (List Used)
  used_by_list s ps results = and_then (check_list A table s (length ps) results) (answered (used_in_turn s ps))
