-- A region as a C function: the number that it returns, and the points, the origin, the box and the set that it leaves. Definitions only.
use Rattle.std.specs.Prelude.{ℕ, cond, List, eqb, Float, length}
use Rattle.answer.specs.Given.{refused, status}
use Rattle.arithmetic.specs.Arith.{Arith}
use Rattle.coordinates.specs.declared.coords.Face.{Face}
use Rattle.coordinates.specs.declared.lonlat.LonLat.{LonLat}
use Rattle.set.specs.Set.{Set}
use Rattle.border.specs.Returns.{written}
use Rattle.caption_box.specs.declared.CaptionBox.{CaptionBox}
use Rattle.region_work.specs.declared.region.Region.{Region}
use Rattle.region_work.specs.Region.{RegionCalled, region_called, region_on}

-- what is written of an answer beside the points
abbrev pub origin_of : Region → ℕ
origin_of r = r.origin

abbrev pub box_of : Region → CaptionBox
box_of r = r.bounds

abbrev pub origin_and_box : Region → ℕ × CaptionBox
origin_and_box r = (origin_of r, box_of r)

pub record Returned : Type 0 where
  pub status : ℕ
  pub points : List Face
  pub origin : ℕ
  pub box : CaptionBox
  pub set : Set

abbrev pub returned : ℕ → List Face → ℕ → CaptionBox → Set → Returned
returned r points origin box s = record { status = r; points = points; origin = origin; box = box; set = s }

-- what the call comes to, as C is told of it: a refusal leaves the origin and the box that stood there
abbrev pub in_c : RegionCalled → ℕ → CaptionBox → Returned
in_c c origin box = returned (status c.answer) c.points (written origin_of c.answer origin) (written box_of c.answer box) c.set

-- with a table, which is a pointer and a length in C: "A table reaches a call as exactly 84 numbers", and one of another length gets 20, before
-- anything else is tried, and changes nothing
unfoldable pub region_with : Arith → List Float → Set → List LonLat → List Face → RegionCalled
region_with A table s ps points = cond (eqb (length table) 84) (region_on A table s ps points) (region_called (refused 20) points s)
