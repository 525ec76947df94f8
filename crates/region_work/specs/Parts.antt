-- The region call by the functions that it is made of: the points stand in an array of 256, of which the first n count. Definitions only.
use Rattle.std.specs.Prelude.{ℕ, Bool, false, cond, not, ◌||◌, List, [], ◌∷◌, ◌*◌, eqb, Float, take, Result}
use Rattle.answer.specs.Given.{Given, answered, refused, refuse_if, and_then, bind}
use Rattle.answer.specs.Answer.{given}
use Rattle.answer.specs.declared.Refusal.{Refusal}
use Rattle.arithmetic.specs.Arith.{Arith}
use Rattle.coordinates.specs.declared.coords.Face.{Face}
use Rattle.coordinates.specs.declared.lonlat.LonLat.{LonLat}
use Rattle.set.specs.Set.{Set}
use Rattle.set.specs.Sizes.{FACE_WIDTH, SPHERE_WIDTH}
use Rattle.set.specs.Checks.{check_with}
use Rattle.stores.specs.Slots.{filled, face_slot, source_slot, sphere_slot}
use Rattle.stores.specs.declared.used.Used.{Used}
use Rattle.dodecahedron.specs.Calls.{place_given}
use Rattle.dodecahedron.specs.declared.place.Place.{Place}
use Rattle.place_list.specs.Lists.{Placed, placed_in_turn, check_counts}
use Rattle.caption_box.specs.Sides.{new_box, grown}
use Rattle.region_work.specs.declared.region.Region.{Region}
use Rattle.region_work.specs.declared.region.Outline.{Outline}
use Rattle.region_work.specs.declared.seen.Seen.{Seen}
use Rattle.region_work.specs.declared.seen.Found.{Found}
use Rattle.region_work.specs.Region.{check_positions, RegionCalled, region_called, region_left, region_given}

-- ---- the survey: every position on the set as it stands

-- a slot that a position uses is empty: the face slot of its triangle, the one that its sphere triangle is built from, or its sphere slot
unfoldable pub slot_empty : Set → Used → Bool
slot_empty s u =
    not (filled s.faces (face_slot u.index u.reflected * FACE_WIDTH))
    || (not (filled s.faces (source_slot u.index u.reflected * FACE_WIDTH))
    || not (filled s.spheres (sphere_slot u.origin u.index u.reflected * SPHERE_WIDTH)))

-- before the first position
abbrev pub nothing_seen : Seen
nothing_seen = record { origin = 0; differ = false; pending = false; bounds = new_box }

-- one position more, which uses an empty slot or none; the box is empty before the first one, whose origin is the one to compare with
unfoldable pub seen_next : Seen → Place → Bool → Seen
seen_next seen place empty =
    record {
      origin = cond seen.bounds.empty place.origin seen.origin;
      differ = cond seen.bounds.empty seen.differ (seen.differ || not (eqb seen.origin place.origin));
      pending = seen.pending || empty;
      bounds = grown seen.bounds place.face;
    }

-- what is known at the end, and the face points
pub record Surveyed : Type 0 where
  pub seen : Seen
  pub points : List Face

abbrev pub surveyed : Seen → List Face → Surveyed
surveyed seen points = record { seen = seen; points = points }

-- the number of the first position that place refuses, or what is known once all are worked out
abbrev pub survey_of : Arith → List Float → Set → Seen → List LonLat → Given Surveyed
survey_of A table s seen [] = answered (surveyed seen [])
survey_of A table s seen (p ∷ ps) =
    bind (place_given A table s p) λ w.
    bind (survey_of A table s (seen_next seen w.answer (slot_empty s w.used)) ps) λ rest.
    answered (surveyed rest.seen (w.answer.face ∷ rest.points))

-- what the code gives, of which n points count
abbrev pub given_found : Result Found Refusal → ℕ → Given Surveyed
given_found r n = bind (given r) λ found. answered (surveyed found.seen (take n found.points))

-- ---- the refusals and the stores

-- those that no position is needed for: 1, 2, 3, 21, 22; 15; 14
unfoldable pub check_region : Arith → List Float → Set → ℕ → ℕ → Given (Unit {0})
check_region A table s n m =
    and_then (check_with A table s)
    (and_then (check_positions n)
    (check_counts n m))

-- 16, or the answer
abbrev pub judged : Seen → Given Region
judged seen = refuse_if seen.differ 16 (answered (record { origin = seen.origin; bounds = seen.bounds }))

-- the set once the positions are placed in turn; where no slot that they use is empty it stays as it was
abbrev pub kept : Bool → Placed → Set → Set
kept pending d s = cond pending d.set s

-- ---- what the core comes to

-- what an outline of n positions comes to, where no points were there before: its n points, or none where it is refused
abbrev pub outlined : Given Outline → ℕ → Set → RegionCalled
outlined (answered o) n s = region_called (answered o.region) (take n o.points) s
outlined (refused c) n s = region_called (refused c) [] s

-- n positions, of which ps are there, and m lent point places
unfoldable pub region_worked : Arith → List Float → Set → List LonLat → ℕ → ℕ → RegionCalled
region_worked A table s ps n m = region_left (region_given A table s ps n m) (placed_in_turn A table s ps) [] s
