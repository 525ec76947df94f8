-- What a call leaves of the set by its effect is what its contract has: for a call that carries one projection, for a list of
-- positions, for a region, and for a step of the caption panel; together `by_contract`. Assumes nothing.
use mathlib.Core.Path.{◌≡◌, refl, sym}
use mathlib.Core.List.{List, []}
use Prim.Native.Nat.{ℕ}
use lib.Ieee.{Float}
use lib.ListN.{length}
use Rattle.std.specs.Prelude.{Option, Some, None}
use Rattle.answer.specs.Given.{Given, answered, refused, and_then, bind}
use Rattle.arithmetic.specs.Arith.{ieee}
use Rattle.coordinates.specs.declared.coords.Face.{Face}
use Rattle.coordinates.specs.declared.lonlat.LonLat.{LonLat}
use Rattle.set.specs.Set.{Set}
use Rattle.stores.specs.declared.used.Used.{Used}
use Rattle.dodecahedron.specs.Work.{set_used, used_of}
use Rattle.dodecahedron.specs.Calls.{forward_given, inverse_given, place_given, unplace_given}
use Rattle.place_list.specs.Lists.{placed, placed_in_turn, check_list, unless_refused, place_list_on}
use Rattle.place_list.specs.Uses.{counted, used_in_turn, used_by_list}
use Rattle.place_list.specs.declared.PlaceResult.{PlaceResult}
use Rattle.place_list.proofs.Laws.{in_turn_written}
use Rattle.region_work.specs.declared.region.Region.{Region}
use Rattle.region_work.specs.Region.{region_left, region_given, region_on}
use Rattle.region_work.specs.Uses.{used_by_region}
use Rattle.panel.specs.Step.{command_in, carried_out, check_step, unless_refused as unlessStepRefused, panel, step_on}
use Rattle.strike_records.specs.declared.record.Request.{Request}
use Rattle.strike_records.specs.declared.record.Request.TheVariants as request
use Rattle.stores.specs.Used.{all_written}
use Rattle.histories.specs.Panel.{used_by_command, used_by_step}
use Rattle.histories.specs.Lists.{Standing, alone, set_used_all}
use Rattle.histories.specs.ByContract.{ByContract}

pub alone_left : (s : Set) (g : Given Used) → set_used ieee s g ≡ set_used_all s (alone g)
alone_left s (refused n) = refl
alone_left s (answered u) = refl

pub list_left : (table : List Float) (s : Set) (ps : List LonLat) (rs : List PlaceResult)
    → (place_list_on ieee table s ps rs).left.set ≡ set_used_all s (used_by_list ieee table s ps (length rs))
list_left table s ps rs = by (check_list ieee table s (length ps) (length rs))
  where
    by : (g : Given (Unit {0}))
        → (unless_refused g (placed_in_turn ieee table s ps) (placed rs s)).set ≡ set_used_all s (and_then g (answered (used_in_turn ieee table s ps)))
    by (answered u) = in_turn_written ieee table s ps
    by (refused n) = refl

pub region_left_lem : (table : List Float) (s : Set) (ps : List LonLat) (points : List Face)
    → (region_on ieee table s ps points).set ≡ set_used_all s (used_by_region ieee table s ps (length points))
region_left_lem table s ps points = by (region_given ieee table s ps (length ps) (length points))
  where
    by : (g : Given Region)
        → (region_left g (placed_in_turn ieee table s ps) points s).set ≡ set_used_all s (bind g λ r. answered (used_in_turn ieee table s ps))
    by (answered r) = in_turn_written ieee table s ps
    by (refused n) = refl

-- a step's, by what it carries
carried_left : (s : Set) (g : Given Used) → set_used ieee s g ≡ all_written ieee s (counted g [])
carried_left s (refused n) = refl
carried_left s (answered u) = refl

command_left : (table : List Float) (s : Set) (b : List ℕ) (k : Given (Option Request))
    → (carried_out ieee table s b k).set ≡ all_written ieee s (used_by_command ieee table s k)
command_left table s b (answered None) = refl
command_left table s b (answered (Some (request.Place p))) = carried_left s (used_of (place_given ieee table s p))
command_left table s b (answered (Some (request.Unplace f o))) = carried_left s (used_of (unplace_given ieee table s f o))
command_left table s b (refused n) = refl

pub step_left : (table : List Float) (s : Set) (b : List ℕ) → (step_on ieee table s b).left.set ≡ set_used_all s (used_by_step ieee table s b)
step_left table s b = by (check_step ieee table s b)
  where
    by : (g : Given (Unit {0}))
        → (unlessStepRefused g (carried_out ieee table s b (command_in ieee b)) (panel b s)).set
        ≡ set_used_all s (and_then g (answered (used_by_command ieee table s (command_in ieee b))))
    by (answered u) = command_left table s b (command_in ieee b)
    by (refused n) = refl

-- open, show and its companion have no other definition
pub by_contract : (s : Standing) → ByContract s
by_contract s =
    let table = s.table in
    let on = s.set in
    record {
      opening = λ t. refl;
      forward = λ p o. sym (alone_left on (used_of (forward_given ieee table on p o)));
      inverse = λ f o. sym (alone_left on (used_of (inverse_given ieee table on f o)));
      place = λ p. sym (alone_left on (used_of (place_given ieee table on p)));
      unplace = λ f o. sym (alone_left on (used_of (unplace_given ieee table on f o)));
      place_list = λ ps rs. sym (list_left table on ps rs);
      region = λ ps points. sym (region_left_lem table on ps points);
      panel = λ b. sym (step_left table on b);
      show = λ kind k. (refl, refl);
    }
