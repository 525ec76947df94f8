-- Paper 9. Open answers on buffers of the right lengths, since the frame has its 62 rows. By demand 3 a call after a
-- list answers as on a newly opened set, and there every sphere triangle that it may take is built. Assumes nothing.
use mathlib.Core.Path.{◌≡◌, refl, sym, ap, subst, ◌∙◌}
use mathlib.Core.Bool.{true, not, true≢false}
use mathlib.Core.List.{List, [], ◌∷◌}
use Prim.Native.Nat.{ℕ, zero, suc, ◌/◌, ◌%◌, ◌<◌}
use native.Mathlib.Omega.{arith}
use lib.Dec.{eqb, leb}
use lib.ListN.{length, get_or}
use lib.Ieee.{Float, of_bits}
use Rattle.answer.specs.Given.{Given, passed, answered, refused}
use Rattle.answer.proofs.Given.{refused_answers_nothing}
use Rattle.arithmetic.specs.Arith.{ieee}
use Rattle.origin.specs.Origins.{ORIGINS}
use Rattle.crs.specs.Frame.{frame_rows}
use Rattle.set.specs.Set.{Set}
use Rattle.set.specs.Checks.{check_with}
use Rattle.set.proofs.Lengths.{set_passes}
use Rattle.set.specs.Open.{open_given}
use Rattle.set.proofs.Opening.{open_opened, built_in_check}
use Rattle.dodecahedron.specs.Calls.{forward_given, inverse_given, place_given, unplace_given}
use Rattle.histories.specs.Lists.{Standing, standing, Call, opens, forwards, inverses, places, unplaces, lists, regions, shows, asks, Effect, writes, uses, reads, effect, after, step, run, steps}
use Rattle.panel.specs.Step.{check_step}
use Rattle.panel.proofs.EveryStep.{never_number}
use Rattle.histories.specs.Panel.{used_by_step}
use Rattle.coordinates.specs.declared.coords.Face.{Face}
use Rattle.coordinates.specs.declared.lonlat.LonLat.{LonLat}
use Rattle.dodecahedron.specs.Calls.{place_on, unplace_on}
use Rattle.dodecahedron.specs.declared.place.Place.{Place}
use Rattle.place_list.specs.Lists.{check_counts, check_list, result_of, placed_in_turn}
use Rattle.place_list.specs.declared.PlaceResult.{PlaceResult}
use Rattle.place_list.specs.Uses.{used_by_list}
use Rattle.region_work.specs.Region.{check_positions, first_failing, check_origins, region_given}
use Rattle.region_work.specs.Uses.{used_by_region}
use Rattle.histories.specs.Defined.{sphere_defined}
use Rattle.histories.specs.EveryList.{opened, left}
use Rattle.histories.specs.BuiltIn.{BuiltIn}
use Rattle.histories.proofs.Outside.{frame_kept}
use Rattle.histories.proofs.Theorem.{every_list}
use Rattle.histories.specs.Results.{each}
use Rattle.histories.proofs.BuiltIn.{answers_built_in, results_built_in}
use Rattle.frame_data.specs.Rows.{ROWS}
use Rattle.frame_data.specs.Claims.{Answers}
use Rattle.frame_data.proofs.Frame.{frame_is}
use Rattle.frame_data.proofs.Triangles.{all_built}
use Rattle.opening.specs.Opening.{RightLengths, OpenAnswers, RefusedWith, InForce, Never8, EverySlot, ConstantRows, KnownFrame, Demand3ByLengths}
use Rattle.opening.specs.Refusals.{among, Only, FORWARD_REFUSALS, INVERSE_REFUSALS, PLACE_REFUSALS, CALL_REFUSALS, RefusalsLeft}
use Rattle.opening.proofs.Refusals.{Within, among_within, answer_refused, only_passed, only_answered, only_if, only_then, only_bind, counts_only, positions_only, origins_only, block_only}
use Rattle.opening.proofs.Fresh.{rows_long, fresh_left}

-- the tests of a call on a set of the right lengths
all_pass : (b : Set) → RightLengths b → check_with ieee ORIGINS b ≡ passed
all_pass b l = built_in_check b ∙ set_passes b (record { frame = l.frame; faces = l.faces; spheres = l.spheres })

-- ---- open

pub open_answers : OpenAnswers
open_answers b l = open_opened ieee ORIGINS b (all_pass b l) rows_long

pub demand_3_by_lengths : Demand3ByLengths
demand_3_by_lengths b l cs =
    let ready = open_answers b l in
    (every_list ORIGINS b ready cs, λ is n m. answers_built_in b ready cs is n (open_answers n m))

-- ---- the frame stays as open wrote it

-- a set whose frame is its table's
abbrev Framed : Standing → Type 0
Framed s = s.set.frame ≡ frame_rows ieee s.table

frame_left : (s : Standing) (e : Effect) → Framed s → Framed (after s e)
frame_left s (writes table (answered u)) h = refl
frame_left s (writes table (refused n)) h = h
frame_left s (uses (answered us)) h = frame_kept us s.set ∙ h
frame_left s (uses (refused n)) h = h
frame_left s reads h = h

frame_after_run : (cs : List Call) (s : Standing) → Framed s → Framed (run s cs)
frame_after_run [] s h = h
frame_after_run (c ∷ cs) s h = frame_after_run cs (step s c) (frame_left s (effect s c) h)

-- ---- after every list

-- each call's refusals are among those of all
forward_within : Within FORWARD_REFUSALS CALL_REFUSALS
unfolding among
forward_within = (refl, (refl, (refl, (refl, tt))))

inverse_within : Within INVERSE_REFUSALS CALL_REFUSALS
unfolding among
inverse_within = (refl, (refl, (refl, (refl, (refl, tt)))))

place_within : Within PLACE_REFUSALS CALL_REFUSALS
unfolding among
place_within = (refl, (refl, (refl, tt)))

-- the first of some positions, placed by themselves, that fails: with a number of place
failing_only : (n : Set) → RefusalsLeft n → (ps : List LonLat) → Only CALL_REFUSALS (first_failing (each ORIGINS n ps))
failing_only n only [] = only_answered CALL_REFUSALS tt
failing_only n only (p ∷ ps) = by (place_on ieee ORIGINS n p).answer refl (failing_only n only ps)
  where
    by : (g : Given Place) → (place_on ieee ORIGINS n p).answer ≡ g → Only CALL_REFUSALS (first_failing (each ORIGINS n ps))
        → Only CALL_REFUSALS (first_failing (result_of g ∷ each ORIGINS n ps))
    by (answered q) is rest = rest
    by (refused m) is rest = only_if CALL_REFUSALS (not (eqb m 0)) m _ (among_within m PLACE_REFUSALS CALL_REFUSALS place_within (only.place p m is)) rest

-- on the set that open has left, the numbers that are left
opened_refusals : (b : Set) → RightLengths b → RefusalsLeft (opened ORIGINS b).set
opened_refusals b l = rw (open_answers b l) fresh_left

opened_framed : (b : Set) → RightLengths b → Framed (opened ORIGINS b)
opened_framed b l = rw (open_answers b l)

module _ (b : Set) (l : RightLengths b) (cs : List Call) (is : InForce b cs) where
  abbrev s : Set
  s = (left ORIGINS b cs).set

  pub frame_after : s.frame ≡ frame_rows ieee ORIGINS
  frame_after = frame_after_run cs (opened ORIGINS b) (opened_framed b l) ∙ ap (frame_rows ieee) is

  pub lengths_after : RightLengths s
  lengths_after =
      let list = (demand_3_by_lengths b l cs).0 in
      record { frame = rw frame_after rows_long; faces = list.face_length; spheres = list.sphere_length }

  pub refusals_left : RefusalsLeft s
  refusals_left =
      let there = opened_refusals b l in
      let same = (demand_3_by_lengths b l cs).1 is b l in
      record {
        forward = λ p o. subst (Only FORWARD_REFUSALS) (sym (same.forward p o)) (there.forward p o);
        inverse = λ f o. subst (Only INVERSE_REFUSALS) (sym (same.inverse f o)) (there.inverse f o);
        place = λ p. subst (Only PLACE_REFUSALS) (sym (same.place p)) (there.place p);
        unplace = λ f o. subst (Only INVERSE_REFUSALS) (sym (same.unplace f o)) (there.unplace f o);
      }

  -- the tests of the next call on the set
  passes : check_with ieee ORIGINS s ≡ passed
  passes = all_pass s lengths_after

  -- the positions of a list are placed as by themselves on the newly opened set
  placed_alike : (ps : List LonLat) → (placed_in_turn ieee ORIGINS s ps).results ≡ each ORIGINS (opened ORIGINS b).set ps
  placed_alike = let ready = open_answers b l in results_built_in b ready cs is b ready

  -- a list of positions is itself refused only for the number of its results
  list_only : (ps : List LonLat) (results : ℕ) → Only CALL_REFUSALS (used_by_list ieee ORIGINS s ps results)
  unfolding check_list among
  list_only ps results =
      let ns = CALL_REFUSALS in
      let checks = only_then ns _ _ (only_passed ns passes) (λ set. counts_only ns refl (length ps) results) in
      only_then ns _ _ checks (λ counts. only_answered ns _)

  -- a region is refused for how many positions it has, for its point places, for a position of its own, or for two faces
  region_only : (ps : List LonLat) (points : ℕ) → Only CALL_REFUSALS (used_by_region ieee ORIGINS s ps points)
  unfolding region_given among
  region_only ps points =
      let ns = CALL_REFUSALS in
      let n = length ps in
      let rs = (placed_in_turn ieee ORIGINS s ps).results in
      let failed : List PlaceResult → Type 0 = λ qs. Only ns (first_failing qs) in
      let failing = subst failed (sym (placed_alike ps)) (failing_only _ (opened_refusals b l) ps) in
      only_bind ns (region_given ieee ORIGINS s ps n points) _
      (only_then ns (check_with ieee ORIGINS s) _ (only_passed ns passes) λ set.
      only_then ns (check_positions n) _ (positions_only ns refl n) λ positions.
      only_then ns (check_counts n points) _ (counts_only ns refl n points) λ counts.
      only_then ns (first_failing rs) _ failing λ all.
      only_then ns (check_origins rs) _ (origins_only ns refl rs) λ origins.
      only_answered ns _)
      (λ r. only_answered ns _)

  -- and a step only for the length of its block
  step_only : (block : List ℕ) → Only CALL_REFUSALS (used_by_step ieee ORIGINS s block)
  unfolding check_step among
  step_only block =
      let ns = CALL_REFUSALS in
      let checks = only_then ns _ _ (block_only ns refl block) (λ e. only_passed ns passes) in
      only_then ns _ _ checks (λ e. only_answered ns _)

  -- whichever call comes next, open with the built-in table included
  pub call_left : (c : Call) → BuiltIn c → (n : ℕ) → RefusedWith n (effect (standing ORIGINS s) c) → among n CALL_REFUSALS ≡ true
  call_left (opens table) built_in n e =
      let answers = ap (λ (t : List Float). open_given ieee t s) built_in ∙ open_answers s lengths_after in
      refused_answers_nothing n tt (sym e ∙ answers)
  call_left (forwards p o) built_in n e =
      let mine = refusals_left.forward p o n (answer_refused (forward_given ieee ORIGINS s p o) n e) in
      among_within n FORWARD_REFUSALS CALL_REFUSALS forward_within mine
  call_left (inverses f o) built_in n e =
      let mine = refusals_left.inverse f o n (answer_refused (inverse_given ieee ORIGINS s f o) n e) in
      among_within n INVERSE_REFUSALS CALL_REFUSALS inverse_within mine
  call_left (places p) built_in n e =
      let mine = refusals_left.place p n (answer_refused (place_given ieee ORIGINS s p) n e) in
      among_within n PLACE_REFUSALS CALL_REFUSALS place_within mine
  call_left (unplaces f o) built_in n e =
      let mine = refusals_left.unplace f o n (answer_refused (unplace_given ieee ORIGINS s f o) n e) in
      among_within n INVERSE_REFUSALS CALL_REFUSALS inverse_within mine
  call_left (lists ps results) built_in n e = list_only ps results n e
  call_left (regions ps points) built_in n e = region_only ps points n e
  call_left (steps block) built_in n e = step_only block n e
  call_left (shows kind k) built_in n e = absurd e
  call_left (asks kind k) built_in n e = absurd e

-- a position that is refused with 8 among some placed by themselves: place would give 8
each_8 : (n : Set) → RefusalsLeft n → (ps : List LonLat) (i : ℕ) (r : PlaceResult) → i < length ps → (get_or (each ORIGINS n ps) i r).refusal ≡ 8 → ⊥
unfolding among
each_8 n only [] i r h e = omega arith
each_8 n only (p ∷ ps) zero r h e = by (place_on ieee ORIGINS n p).answer refl e
  where
    by : (g : Given Place) → (place_on ieee ORIGINS n p).answer ≡ g → (result_of g).refusal ≡ 8 → ⊥
    by (answered q) is e = omega arith
    by (refused m) is e = true≢false (sym (only.place p 8 (is ∙ ap refused e)))
each_8 n only (p ∷ ps) (suc i) r h e = each_8 n only ps i r (omega arith) e

pub never_8 : Never8
unfolding among
never_8 b l cs is =
    let only = refusals_left b l cs is in
    record {
      forward = λ p o e. true≢false (sym (only.forward p o 8 e));
      inverse = λ f o e. true≢false (sym (only.inverse f o 8 e));
      place = λ p e. true≢false (sym (only.place p 8 e));
      unplace = λ f o e. true≢false (sym (only.unplace f o 8 e));
      place_list = λ ps i r h e.
          let same = ap (λ (rs : List PlaceResult). (get_or rs i r).refusal) (sym (placed_alike b l cs is ps)) in
          each_8 _ (opened_refusals b l) ps i r h (same ∙ e);
      step = λ block passes asked.
          let placed : (p : LonLat) → (place_on ieee ORIGINS (left ORIGINS b cs).set p).answer ≡ refused 8 → ⊥ =
          λ p e. true≢false (sym (only.place p 8 e)) in
          let unplaced : (f : Face) (o : ℕ) → (unplace_on ieee ORIGINS (left ORIGINS b cs).set f o).answer ≡ refused 8 → ⊥ =
          λ f o e. true≢false (sym (only.unplace f o 8 e)) in
          never_number ieee ORIGINS (left ORIGINS b cs).set block 8 (omega arith) (λ e. omega arith) placed unplaced passes asked;
      any_call = λ c built_in e. true≢false (sym (call_left b l cs is c built_in 8 e));
    }

pub every_slot : EverySlot
unfolding sphere_defined
every_slot b l cs is k h =
    subst (λ (frame : List Float). Answers (sphere_defined ORIGINS frame k)) (sym (frame_after b l cs is))
    (all_built (k % 120 / 10) (k % 10) (leb 120 k) (omega arith) (omega arith))

constant_rows : ConstantRows ROWS
unfolding ROWS of_bits
constant_rows = record { row_0 = refl; row_32 = refl; row_12 = refl }

pub known_frame : KnownFrame
known_frame b l cs in-force =
    let is = frame_after b l cs in-force ∙ frame_is in
    (is, subst ConstantRows (sym is) constant_rows)
