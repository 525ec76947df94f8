-- Document 02, Paper 4: "A channel's outline is a list of 1 to 256 positions. Where one position now has a nearest face, the whole outline
-- must have the same one, and the call then gives that face, every face point and the outline's box". Over a table of origins, with
-- Paper 1's placing in turn and Paper 3's box and no others. Definitions only.
use Rattle.std.specs.Prelude.{ℕ, Bool, true, not, ◌&&◌, ◌||◌, List, [], ◌∷◌, eqb, ltb, Float, length}
use Rattle.answer.specs.Given.{Given, answered, refused, passed, refuse_if, and_then}
use Rattle.arithmetic.specs.Arith.{Arith}
use Rattle.coordinates.specs.CoordinateTransforms.{face}
use Rattle.coordinates.specs.declared.coords.Face.{Face}
use Rattle.coordinates.specs.declared.lonlat.LonLat.{LonLat}
use Rattle.set.specs.Set.{Set}
use Rattle.set.specs.Checks.{check_with}
use Rattle.place_list.specs.Lists.{Placed, placed_in_turn, check_counts}
use Rattle.place_list.specs.declared.PlaceResult.{PlaceResult}
use Rattle.caption_box.specs.Sides.{new_box}
use Rattle.caption_box.specs.EveryList.{grown_all}
use Rattle.region_work.specs.declared.region.Region.{Region}

-- ---- the refusals

-- 15, "no positions or more than 256"
unfoldable pub check_positions : ℕ → Given (Unit {0})
check_positions n = refuse_if (eqb n 0 || ltb 256 n) 15 passed

-- "Each position must pass place's own checks, and the first failing one gives its number."
abbrev pub first_failing : List PlaceResult → Given (Unit {0})
first_failing [] = passed
first_failing (r ∷ rs) = refuse_if (not (eqb r.refusal 0)) r.refusal (first_failing rs)

-- the first position's origin
abbrev pub first_origin : List PlaceResult → ℕ
first_origin [] = 0
first_origin (r ∷ rs) = r.origin

-- whether all have the origin o
abbrev pub all_on : ℕ → List PlaceResult → Bool
all_on o [] = true
all_on o (r ∷ rs) = eqb o r.origin && all_on o rs

-- 16, "two positions have different nearest origins"
unfoldable pub check_origins : List PlaceResult → Given (Unit {0})
check_origins rs = refuse_if (not (all_on (first_origin rs) rs)) 16 passed

-- ---- the answer

-- "every face point"
abbrev pub points_of : List PlaceResult → List Face
points_of [] = []
points_of (r ∷ rs) = face r.x r.y ∷ points_of rs

-- "that face", and "the outline's box, here without the ±4 limit"
abbrev pub region_of : List PlaceResult → Region
region_of rs = record { origin = first_origin rs; bounds = grown_all new_box (points_of rs) }

-- ---- the call

-- what the call comes to: its answer, and the points and the set that it leaves
pub record RegionCalled : Type 0 where
  pub answer : Given Region
  pub points : List Face
  pub set : Set

abbrev pub region_called : Given Region → List Face → Set → RegionCalled
region_called g points s = record { answer = g; points = points; set = s }

-- "The set is then as after placing the positions in turn. Otherwise nothing is written and the set is unchanged."
abbrev pub region_left : Given Region → Placed → List Face → Set → RegionCalled
region_left (answered r) d points s = region_called (answered r) (points_of d.results) d.set
region_left (refused n) d points s = region_called (refused n) points s

module _ (A : Arith) (table : List Float) (s : Set) (ps : List LonLat) where
  -- n positions, which are ps, and m lent point places. 1, 2, 3 and Paper 10's 21, 22; 15, "tried after 3"; "then 14, if the lent point
  -- places differ in number from the positions"; a position's own number; 16, "tried after all positions pass place"
  unfoldable pub region_given : ℕ → ℕ → Given Region
  region_given n m =
      let results = (placed_in_turn A table s ps).results in
      and_then (check_with A table s)
      (and_then (check_positions n)
      (and_then (check_counts n m)
      (and_then (first_failing results)
      (and_then (check_origins results)
      (answered (region_of results))))))

  abbrev pub region_on : List Face → RegionCalled
  region_on points = region_left (region_given (length ps) (length points)) (placed_in_turn A table s ps) points s
