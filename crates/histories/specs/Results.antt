-- Paper 1, after every list of calls: what a list of positions gives, position by position. Definitions only.
use Rattle.std.specs.Prelude.{◌≡◌, List, map, Float}
use Rattle.answer.specs.Given.{passed}
use Rattle.arithmetic.specs.Arith.{ieee}
use Rattle.coordinates.specs.declared.lonlat.LonLat.{LonLat}
use Rattle.set.specs.Set.{Set}
use Rattle.set.specs.Open.{open_given}
use Rattle.dodecahedron.specs.Calls.{place_on}
use Rattle.place_list.specs.Lists.{result_of, placed_in_turn}
use Rattle.place_list.specs.declared.PlaceResult.{PlaceResult}
use Rattle.histories.specs.Lists.{Call}
use Rattle.histories.specs.EveryList.{opened, left}

-- each position by itself, placed on the set n
abbrev pub each : List Float → Set → List LonLat → List PlaceResult
each table n ps = map (λ p. result_of (place_on ieee table n p).answer) ps

-- The results of a list are place's own, each on a newly opened set: so what stands before a position in the list, or in what order the
-- positions stand, alters no position's result.
abbrev pub ResultsAlone : Type 0
ResultsAlone =
    (t : List Float) (b : Set) → open_given ieee t b ≡ passed → (cs : List Call) (n : Set) →
    let table = (left t b cs).table in
    open_given ieee table n ≡ passed → (ps : List LonLat) →
    (placed_in_turn ieee table (left t b cs).set ps).results ≡ each table (opened table n).set ps
