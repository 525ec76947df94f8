-- `work::work` meets its contract: refused by its checks, refused by a position or by 16, or answered, with the stores written. Assumes nothing.
use Rattle.std.proofs.Common.{ℕ, ◌≡◌, ◌≤◌, false, eqb, List, ◌∷◌, Float, length, take, refl, sym, ap, ◌∙◌}
use Rattle.std.specs.Prelude.{Result, Ok}
use Rattle.answer.specs.Given.{answered}
use Rattle.answer.specs.Answer.{given}
use Rattle.answer.specs.declared.Refusal.{Refusal}
use Rattle.answer.proofs.Given.{handed_on}
use Rattle.arithmetic.specs.Arith.{ieee}
use Rattle.coordinates.specs.declared.lonlat.LonLat.{LonLat}
use Rattle.set.specs.Set.{Set}
use Rattle.set.specs.Lent.{held}
use Rattle.place_list.specs.Lists.{placed_in_turn}
use Rattle.region_work.specs.declared.region.Outline.{Outline}
use Rattle.region_work.specs.declared.seen.Found.{Found}
use Rattle.region_work.specs.declared.seen.Seen.{Seen}
use Rattle.region_work.specs.Region.{region_given}
use Rattle.region_work.specs.Parts.{check_region, nothing_seen, surveyed, given_found, survey_of, kept, outlined, region_worked}
use Rattle.region_work.proofs.Whole.{few, some, judged_by, refused_before, judged_is, worked_refused, worked_answered}
use Rattle.list_calls.proofs.work.work.Goals as goal
use Rattle.list_calls.proofs.work.work.Goals.{then-seen, else-seen}

-- the call with the positions ps and m places, on the set s, which the checks and the survey read as v
module _ (table : List Float) (s : Set) (ps : List LonLat) (m : ℕ) (v : Set) (read : v ≡ s) where
  -- what the checks came to
  checked : (r k : Result (Unit {0}) Refusal) → given r ≡ check_region ieee table v (length ps) m → r ≡ k
      → check_region ieee table s (length ps) m ≡ given k
  checked r k checks was = sym (rw read at checks) ∙ ap given was

  -- once they are passed
  module _ (r : Result (Unit {0}) Refusal) (checks : given r ≡ check_region ieee table v (length ps) m) (was : r ≡ Ok tt) where
    counted : (eqb (length ps) 0 ≡ false) × (length ps ≤ 256)
    counted = few ieee table s (length ps) m (checked r (Ok tt) checks was)

    one : (p : LonLat) × (qs : List LonLat) × (ps ≡ p ∷ qs)
    one = some ps counted.0

    -- what the survey came to
    module _ (f d : Result Found Refusal) (survey : given_found f (length ps) ≡ survey_of ieee table v nothing_seen ps) (is : f ≡ d) where
      found : survey_of ieee table s nothing_seen ps ≡ given_found d (length ps)
      found = sym (rw read at survey) ∙ ap (λ (r : Result Found Refusal). given_found r (length ps)) is

      -- gives the answer
      answer_is : region_given ieee table s ps (length ps) m ≡ judged_by (given_found d (length ps))
      answer_is = judged_is ieee table s ps (length ps) m (checked r (Ok tt) checks was) one ∙ ap judged_by found

      -- and what the call leaves
      leaves : (o : Outline) (seen : Seen) (exit : Set) → given_found d (length ps) ≡ answered (surveyed seen (take (length ps) o.points))
          → judged_by (given_found d (length ps)) ≡ answered o.region → exit ≡ kept seen.pending (placed_in_turn ieee table s ps) s
          → outlined (answered o) (length ps) exit ≡ region_worked ieee table s ps (length ps) m
      leaves o seen exit worked judged is_kept =
          worked_answered ieee table s ps (length ps) m o seen exit (answer_is ∙ judged) one (found ∙ worked) is_kept

pub returns-in_err-check_region-clause-worked : goal.returns-in_err-check_region-clause-worked
returns-in_err-check_region-clause-worked g c =
    let table = g.O.Origins.table c.args.origins.now in
    let s = held c.args.set.now in
    let ps = c.args.positions.now in
    let refused = checked table s ps c.args.m _ c.view-view.ensures _ _ c.check_region.ensures c.in_err-check_region.was in
    worked_refused ieee table s ps _ c.args.m _ _ (refused_before ieee table s ps _ c.args.m _ refused) (handed_on _ _ c.from_residual.ensures)

pub survey-requires : goal.survey-requires
survey-requires g c =
    (counted _ (held c.args.set.now) c.args.positions.now c.args.m _ c.view-view.ensures _ c.check_region.ensures c.in_ok-check_region.was).1

pub returns-in_err-found-clause-worked : goal.returns-in_err-found-clause-worked
returns-in_err-found-clause-worked g c =
    let table = g.O.Origins.table c.args.origins.now in
    let s = held c.args.set.now in
    let ps = c.args.positions.now in
    worked_refused ieee table s ps _ c.args.m _ _
    (answer_is table s ps c.args.m _ c.view-view.ensures _ c.check_region.ensures c.in_ok-check_region.was _ _ c.survey.ensures c.in_err-found.was)
    (handed_on _ _ c.from_residual-in_err-found.ensures)

pub returns-in_err-region-clause-worked : goal.returns-in_err-region-clause-worked
returns-in_err-region-clause-worked g c =
    let table = g.O.Origins.table c.args.origins.now in
    let s = held c.args.set.now in
    let ps = c.args.positions.now in
    worked_refused ieee table s ps _ c.args.m _ _
    (answer_is table s ps c.args.m _ c.view-view.ensures _ c.check_region.ensures c.in_ok-check_region.was _ _ c.survey.ensures c.in_ok-found.was
    ∙ sym c.judge.ensures ∙ ap given c.in_err-region.was)
    (handed_on _ _ c.from_residual-in_err-region.ensures)

pub returns-clause-worked : goal.returns-clause-worked
returns-clause-worked g c =
    let table = g.O.Origins.table c.args.origins.now in
    let s = held c.args.set.now in
    let ps = c.args.positions.now in
    let seen = c.in_ok-found.found.seen in
    let outline : Outline = record { region = c.in_ok-region.region; points = c.in_ok-found.found.points } in
    let exit : held c.if-seen.set ≡ kept seen.pending (placed_in_turn ieee table s ps) s = elim c.if-seen.branch [
      | then-seen w ↦ rw (w.set-is, w.if-seen.true) w.keep.ensures.left
      | else-seen w ↦ rw (w.set-is, w.if-seen.false) refl
    ] in
    leaves table s ps c.args.m _ c.view-view.ensures _ c.check_region.ensures c.in_ok-check_region.was _ _ c.survey.ensures c.in_ok-found.was
    outline seen _ refl (sym c.judge.ensures ∙ ap given c.in_ok-region.was) exit
