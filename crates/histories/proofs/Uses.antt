-- What an answered call tells of the slots that it uses, whatever the buffers hold: they lie in the stores, and the sphere triangle and
-- b × c are those that the set gives for its slot. A call that joins the list has one clause here, in `effect_fits`. Assumes nothing.
use mathlib.Core.Path.{◌≡◌, refl, sym, ap, subst, ◌∙◌}
use mathlib.Core.List.{List, [], ◌∷◌}
use Prim.Native.Nat.{ℕ, ◌<◌}
use lib.Ieee.{Float}
use lib.ListN.{length}
use Rattle.std.specs.Prelude.{Option, Some, None}
use Rattle.answer.specs.Given.{Given, answered, refused, passed, and_then}
use Rattle.answer.proofs.Given.{refused_answers_nothing, then_answered, bind_answered}
use Rattle.arithmetic.specs.Arith.{ieee}
use Rattle.coordinates.specs.CoordinateTransforms.{from_lon_lat, to_lon_lat}
use Rattle.coordinates.specs.Conversions.{check_lon_lat, check_spherical, check_face, finite_spherical, finite_lon_lat, finite_face}
use Rattle.coordinates.specs.declared.coords.Face.{Face}
use Rattle.coordinates.specs.declared.lonlat.LonLat.{LonLat}
use Rattle.coordinates.specs.declared.polar.Polar.{Polar}
use Rattle.coordinates.specs.declared.spherical.Spherical.{Spherical}
use Rattle.origin.specs.Origins.{origin_at}
use Rattle.nearest.specs.Nearest.{nearest_origin}
use Rattle.nearest.proofs.LowestNearest.{nearest_is}
use Rattle.set.specs.Set.{Set}
use Rattle.set.specs.Checks.{check_origin, check_with}
use Rattle.set.proofs.Lengths.{Fits, with_passed, origin_passed}
use Rattle.stores.specs.Used.{used_written}
use Rattle.stores.specs.declared.used.Used.{Used}
use Rattle.stores.specs.Taken.{used_for}
use Rattle.stores.proofs.TakenWithin.{answered_same}
use Rattle.stores.proofs.Uses as any
use Rattle.dodecahedron.specs.Place.{finite_place}
use Rattle.dodecahedron.specs.Work.{used_of, set_used, finish}
use Rattle.dodecahedron.specs.declared.work.Work.{Work}
use Rattle.dodecahedron.specs.Calls.{place_given, unplace_given}
use Rattle.place_list.specs.Lists.{check_list}
use Rattle.place_list.specs.Uses.{counted, used_in_turn, used_by_list}
use Rattle.region_work.specs.Region.{region_given}
use Rattle.region_work.specs.Uses.{used_by_region}
use Rattle.dodecahedron.proofs.Worked.{forward_used, inverse_used}
use Rattle.dodecahedron.proofs.Ended.{tests_on, finish_used, forward_is, inverse_is, place_is, unplace_is}
use Rattle.histories.specs.Lists.{Standing, standing, Call, opens, forwards, inverses, places, unplaces, lists, regions, shows, asks, Effect, writes, uses, reads, alone, effect, steps}
use Rattle.panel.specs.Step.{command_in, check_step}
use Rattle.strike_records.specs.declared.record.Request.{Request}
use Rattle.strike_records.specs.declared.record.Request.TheVariants as request
use Rattle.histories.specs.Panel.{used_by_command, used_by_step}

abbrev pub UsedOn : List Float → Set → Used → Type 0
UsedOn table s u = any.UsedOn ieee table s u

-- of several projections each, on the set that those before have left
abbrev pub UsedAll : List Float → Set → List Used → Type 0
UsedAll table s [] = Unit {0}
UsedAll table s (u ∷ us) = UsedOn table s u × UsedAll table (used_written ieee s u) us

abbrev pub EffectOn : Standing → Effect → Type 0
EffectOn s (writes table g) = Unit {0}
EffectOn s (uses g) = (us : List Used) → g ≡ answered us → UsedAll s.table s.set us
EffectOn s reads = Unit {0}

-- a call that carries one
pub alone_fits : (s : Standing) (g : Given Used) → ((u : Used) → g ≡ answered u → UsedOn s.table s.set u) → EffectOn s (uses (alone g))
alone_fits s (refused n) fits us e = refused_answers_nothing n us e
alone_fits s (answered u) fits us e = subst (UsedAll s.table s.set) (answered_same e) (fits u refl, tt)

-- ---- from a call's answer back to its core

-- what is used was worked out
work_used : {X : Type 0} (g : Given (Work X)) (u : Used) → used_of g ≡ answered u → (w : Work X) × (g ≡ answered w) × (w.used ≡ u)
work_used (refused n) u e = refused_answers_nothing n u e
work_used (answered w) u e = (w, refl, answered_same e)

module _ (table : List Float) (s : Set) (o : ℕ) where
  -- what checks that passed tell of the set and the origin
  abbrev Told : Type 0
  Told = Fits s × (o < 12)

  -- any call: its checks, and a core that uses the slots of a polar point
  call_fits : {X Y : Type 0} (given : Given (Work Y)) (check : Given (Unit {0})) (core : Given (Work X)) (f : X → Given Y) (polar : Polar)
      → given ≡ and_then check (finish core f)
      → (check ≡ passed → Told)
      → ((w : Work X) → core ≡ answered w → used_for ieee (origin_at table o) s o polar ≡ answered w.used)
      → EffectOn (standing table s) (uses (alone (used_of given)))
  call_fits given check core f polar is told back =
      alone_fits (standing table s) (used_of given) λ u e.
      let work = work_used given u e in
      let passes = then_answered check _ work.0 (sym is ∙ work.1) in
      let worked = finish_used core f work.0 passes.1 in
      let known = told passes.0 in
      any.used_on ieee table s o polar u known.0 known.1 (back worked.0 worked.1 ∙ ap answered (worked.2 ∙ work.2))

  -- 1, 2, 3, 21, 22 and 4, and then the call's own numbers
  origin_told : (own : Given (Unit {0})) → and_then (tests_on ieee table s o) own ≡ passed → Told
  origin_told own e =
      let tests = then_answered (tests_on ieee table s o) own tt e in
      let passes = then_answered (check_with ieee table s) (check_origin o) tt tests.0 in
      ((with_passed ieee table s passes.0).0, origin_passed o passes.1)

  -- the same without 4, where the origin is known to be one of the twelve
  nearest_told : (own : Given (Unit {0})) → o < 12 → and_then (check_with ieee table s) own ≡ passed → Told
  nearest_told own h e = ((with_passed ieee table s (then_answered (check_with ieee table s) own tt e).0).0, h)

-- ---- each call

pub place_fits : (table : List Float) (s : Set) (p : LonLat) → EffectOn (standing table s) (uses (alone (used_of (place_given ieee table s p))))
place_fits table s p =
    let q = from_lon_lat ieee p in
    let o = nearest_origin ieee table q in
    let known = nearest_told table s o (check_lon_lat p) (nearest_is ieee table q).origin in
    call_fits table s o _ _ _ (finite_place o) _ (place_is ieee table s p q o refl refl) known (forward_used ieee (origin_at table o) s o q)

-- what one place uses, on the set that it is made on
pub place_on : (table : List Float) (s : Set) (p : LonLat) (u : Used) → used_of (place_given ieee table s p) ≡ answered u → UsedOn table s u
place_on table s p u e = (place_fits table s p (u ∷ []) (ap alone e)).0

-- and so each of a list
in_turn_fits : (table : List Float) (ps : List LonLat) (s : Set) → UsedAll table s (used_in_turn ieee table s ps)
in_turn_fits table [] s = tt
in_turn_fits table (p ∷ ps) s = go (used_of (place_given ieee table s p)) refl (in_turn_fits table ps)
  where
    go : (g : Given Used) → used_of (place_given ieee table s p) ≡ g → ((t : Set) → UsedAll table t (used_in_turn ieee table t ps))
        → UsedAll table s (counted g (used_in_turn ieee table (set_used ieee s g) ps))
    go (refused n) e rest = rest s
    go (answered u) e rest = (place_on table s p u e, rest (used_written ieee s u))

list_fits : (s : Standing) (ps : List LonLat) (results : ℕ) → EffectOn s (uses (used_by_list ieee s.table s.set ps results))
list_fits s ps results us e =
    let passes = then_answered (check_list ieee s.table s.set (length ps) results) _ us e in
    subst (UsedAll s.table s.set) (answered_same passes.1) (in_turn_fits s.table ps s.set)

region_fits : (s : Standing) (ps : List LonLat) (points : ℕ) → EffectOn s (uses (used_by_region ieee s.table s.set ps points))
region_fits s ps points us e =
    let region = bind_answered (region_given ieee s.table s.set ps (length ps) points) _ us e in
    subst (UsedAll s.table s.set) (answered_same region.2) (in_turn_fits s.table ps s.set)

unplace_fits : (table : List Float) (s : Set) (f : Face) (o : ℕ) → EffectOn (standing table s) (uses (alone (used_of (unplace_given ieee table s f o))))
unplace_fits table s f o =
    let ends : Spherical → Given LonLat = λ q. finite_lon_lat (to_lon_lat ieee q) in
    let origin = origin_at table o in
    call_fits table s o _ _ _ ends _ (unplace_is ieee table s f o) (origin_told table s o (check_face f)) (inverse_used ieee origin s o f)

-- a step carries one, or none
carried_fits : (table : List Float) (s : Set) (g : Given Used) → ((u : Used) → g ≡ answered u → UsedOn table s u) → UsedAll table s (counted g [])
carried_fits table s (refused n) on = tt
carried_fits table s (answered u) on = (on u refl, tt)

command_fits : (table : List Float) (s : Set) (k : Given (Option Request)) → UsedAll table s (used_by_command ieee table s k)
command_fits table s (answered None) = tt
command_fits table s (answered (Some (request.Place p))) = carried_fits table s (used_of (place_given ieee table s p)) (place_on table s p)
command_fits table s (answered (Some (request.Unplace f o))) =
    carried_fits table s (used_of (unplace_given ieee table s f o)) (λ u e. (unplace_fits table s f o (u ∷ []) (ap alone e)).0)
command_fits table s (refused n) = tt

step_fits : (s : Standing) (b : List ℕ) → EffectOn s (uses (used_by_step ieee s.table s.set b))
step_fits s b us e =
    let passes = then_answered (check_step ieee s.table s.set b) _ us e in
    subst (UsedAll s.table s.set) (answered_same passes.1) (command_fits s.table s.set (command_in ieee b))

pub effect_fits : (s : Standing) (c : Call) → EffectOn s (effect s c)
effect_fits s (opens t) = tt
effect_fits s (forwards p o) =
    let origin = origin_at s.table o in
    call_fits s.table s.set o _ _ _ finite_face _ (forward_is ieee s.table s.set p o)
    (origin_told s.table s.set o (check_spherical p)) (forward_used ieee origin s.set o p)
effect_fits s (inverses f o) =
    let origin = origin_at s.table o in
    call_fits s.table s.set o _ _ _ finite_spherical _ (inverse_is ieee s.table s.set f o)
    (origin_told s.table s.set o (check_face f)) (inverse_used ieee origin s.set o f)
effect_fits s (places p) = place_fits s.table s.set p
effect_fits s (unplaces f o) = unplace_fits s.table s.set f o
effect_fits s (lists ps results) = list_fits s ps results
effect_fits s (regions ps points) = region_fits s ps points
effect_fits s (steps b) = step_fits s b
effect_fits s (shows kind k) = tt
effect_fits s (asks kind k) = tt
