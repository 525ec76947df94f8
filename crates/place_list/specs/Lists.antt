-- Document 02, Paper 1: "One call takes a lent slice of positions and a lent slice of results, and fills every result with its place
-- answer or its refusal." Over a table of origins, and with place's own definition and no other. Definitions only.
use Rattle.std.specs.Prelude.{ℕ, not, List, [], ◌∷◌, eqb, Float, length}
use Rattle.answer.specs.Given.{Given, answered, refused, passed, refuse_if, and_then}
use Rattle.arithmetic.specs.Arith.{Arith}
use Rattle.arithmetic.specs.Numbers.{0·0}
use Rattle.coordinates.specs.declared.lonlat.LonLat.{LonLat}
use Rattle.set.specs.Set.{Set}
use Rattle.set.specs.Checks.{check_with}
use Rattle.dodecahedron.specs.Calls.{place_on}
use Rattle.dodecahedron.specs.declared.place.Place.{Place}
use Rattle.place_list.specs.declared.PlaceResult.{PlaceResult}

-- "A result is a refusal number (0 if answered), origin, x and y; a refused one has origin 0 and +0 twice."
abbrev pub result_of : Given Place → PlaceResult
result_of (answered p) = record { refusal = 0; origin = p.origin; x = p.face.0.x; y = p.face.0.y }
result_of (refused n) = record { refusal = n; origin = 0; x = 0·0; y = 0·0 }

-- ---- "placing the positions singly from first to last"

-- what placing one position comes to: its result, and the set that is left
pub record Step : Type 0 where
  pub result : PlaceResult
  pub set : Set

abbrev pub step : PlaceResult → Set → Step
step r s = record { result = r; set = s }

-- what placing several comes to: their results, and the set that is left
pub record Placed : Type 0 where
  pub results : List PlaceResult
  pub set : Set

abbrev pub placed : List PlaceResult → Set → Placed
placed rs s = record { results = rs; set = s }

module _ (A : Arith) (table : List Float) where
  -- one position is placed on a set
  unfoldable pub placed_one : Set → LonLat → Step
  placed_one s p = step (result_of (place_on A table s p).answer) (place_on A table s p).set

  -- each position is placed on the set that the one before has left. "A refused position doesn't stop the list."
  abbrev pub placed_in_turn : Set → List LonLat → Placed
  placed_in_turn s [] = placed [] s
  placed_in_turn s (p ∷ ps) =
      let one = placed_one s p in
      let rest = placed_in_turn one.set ps in
      placed (one.result ∷ rest.results) rest.set

-- ---- the call

-- 14, "the two slices differ in length": so many positions, so many results
unfoldable pub check_counts : ℕ → ℕ → Given (Unit {0})
check_counts positions results = refuse_if (not (eqb positions results)) 14 passed

-- 1, 2, 3; 21, 22, which Paper 10 has "right after 3"; and 14, "tried after 3"
unfoldable pub check_list : Arith → List Float → Set → ℕ → ℕ → Given (Unit {0})
check_list A table s positions results =
    and_then (check_with A table s)
    (check_counts positions results)

-- what the call comes to: passed or refused, and the results and the set that it leaves
pub record Called : Type 0 where
  pub answer : Given (Unit {0})
  pub left : Placed

abbrev pub called : Given (Unit {0}) → List PlaceResult → Set → Called
called g rs s = record { answer = g; left = placed rs s }

-- what is left, where all are placed or the call is refused
abbrev pub unless_refused : Given (Unit {0}) → Placed → Placed → Placed
unless_refused (answered u) new old = new
unless_refused (refused n) new old = old

-- "The results and the set must equal those of placing the positions singly from first to last." A refused call leaves both as they were.
module _ (A : Arith) (table : List Float) where
  abbrev pub place_list_on : Set → List LonLat → List PlaceResult → Called
  place_list_on s ps rs =
      let check = check_list A table s (length ps) (length rs) in
      record { answer = check; left = unless_refused check (placed_in_turn A table s ps) (placed rs s) }
