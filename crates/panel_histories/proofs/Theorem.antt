-- Every list of host writes, steps and other calls. The idea: what the events leave of the set is what a list of calls leaves, the steps
-- among them as calls with the block as it stood; so demand 3 holds there, and a step's block is that on a newly opened set. Assumes nothing.
use mathlib.Core.Path.{◌≡◌, refl, sym, ap, subst, ◌∙◌}
use mathlib.Core.List.{List, [], ◌∷◌, ◌++◌}
use Prim.Native.Nat.{ℕ}
use lib.Ieee.{Float}
use native.Mathlib.Omega.{arith}
use lib.ListN.{length, get_or, length-replicate}
use borrow.Author.Tests.{eqb-true, eq-eqb, ne_eqb, not-false}
use Rattle.std.specs.Prelude.{Option, Some}
use Rattle.answer.specs.Given.{Given, answered, passed}
use Rattle.answer.proofs.Given.{refuse_answered, then_answered, then_passed, then_pass}
use Rattle.arithmetic.specs.Arith.{ieee}
use Rattle.arithmetic.specs.Numbers.{0·0}
use Rattle.crs.specs.Frame.{frame_rows}
use Rattle.origin.specs.Table.{check_table}
use Rattle.set.specs.Set.{Set, check_set}
use Rattle.set.specs.Checks.{check_with}
use Rattle.set.specs.Open.{open_given, new_set}
use Rattle.set.specs.Sizes.{FRAME, FACE_STORE, SPHERE_STORE}
use Rattle.set.proofs.Lengths.{Fits, set_passes}
use Rattle.strike_records.specs.Record.{lon_lat_in, face_in}
use Rattle.strike_records.specs.declared.record.Request.{Request}
use Rattle.strike_records.specs.declared.record.Request.TheVariants as request
use Rattle.panel.specs.Registers.{BLOCK, COMMAND, ORIGIN, INPUTS, check_block}
use Rattle.panel.specs.Step.{command_in, carried_out, check_step, unless_refused, panel, step_on}
use Rattle.histories.specs.Lists.{Standing, standing, Call, step}
use Rattle.histories.specs.Lists as lists
use Rattle.histories.specs.EveryList.{SameAnswers, opened, left}
use Rattle.histories.proofs.Left.{step_left}
use Rattle.histories.proofs.Theorem.{every_list}
use Rattle.opening.proofs.Lists.{left_then}
use Rattle.panel_histories.specs.Events.{Event, host_writes, steps, calls, State, state, next}
use Rattle.panel_histories.specs.EveryPanel.{AsNew, EachEnds, EveryPanel}

-- ---- the command of a block
place_asked : (b : List ℕ) → get_or b COMMAND 0 ≡ 1 → command_in ieee b ≡ answered (Some (request.Place (lon_lat_in ieee b INPUTS)))
unfolding command_in
place_asked b e = rw (ne_eqb (get_or b COMMAND 0) 0 (λ z. omega (arith, z, e)), eq-eqb (get_or b COMMAND 0) 1 e, command_in)

unplace_asked : (b : List ℕ) → get_or b COMMAND 0 ≡ 2 → command_in ieee b ≡ answered (Some (request.Unplace (face_in ieee b INPUTS) (get_or b ORIGIN 0)))
unfolding command_in
unplace_asked b e =
    let asked = get_or b COMMAND 0 in
    rw (ne_eqb asked 0 (λ z. omega (arith, z, e)), ne_eqb asked 1 (λ z. omega (arith, z, e)), eq-eqb asked 2 e, command_in)

block_passes : (b : List ℕ) → length b ≡ BLOCK → check_block b ≡ passed
unfolding check_block
block_passes b e = rw (eq-eqb (length b) BLOCK e)

-- ---- a step on a newly opened set
module _ (table : List Float) (n : Set) (ready : open_given ieee table n ≡ passed) where
  abbrev new : Set
  new = (opened table n).set

  new_is : new ≡ new_set ieee table
  new_is = rw ready

  -- what open has tested
  table_passes : check_table ieee table ≡ passed
  unfolding open_given
  table_passes =
      let tests = then_answered (check_set n) _ tt ready in
      (then_answered (check_table ieee table) _ tt tests.1).0

  new_fits : Fits (new_set ieee table)
  unfolding open_given
  new_fits =
      let tests = then_answered (check_set n) _ tt ready in
      let rows = (then_answered (check_table ieee table) _ tt tests.1).1 in
      let long = eqb-true (length (frame_rows ieee table)) FRAME (not-false _ (refuse_answered _ 7 passed tt rows).0) in
      record { frame = long; faces = length-replicate FACE_STORE 0·0; spheres = length-replicate SPHERE_STORE 0·0 }

  -- so the set and the table pass
  new_passes : check_with ieee table new ≡ passed
  new_passes =
      ap (check_with ieee table) new_is
      ∙ then_passed (check_set (new_set ieee table)) (check_table ieee table) (set_passes (new_set ieee table) new_fits)
      ∙ table_passes

  check_new : (b : List ℕ) → check_step ieee table new b ≡ check_block b
  unfolding check_step
  check_new b = then_pass (check_block b) (check_with ieee table new) new_passes

  -- what a step leaves there
  left_new : (b : List ℕ) (k : Given (Option Request)) → length b ≡ BLOCK → command_in ieee b ≡ k
      → (step_on ieee table new b).left.block ≡ (carried_out ieee table new b k).block
  left_new b k long asked =
      let carried = carried_out ieee table new b in
      let passes = check_new b ∙ block_passes b long in
      ap (λ (g : Given (Unit {0})). (unless_refused g (carried (command_in ieee b)) (panel b new)).block) passes
      ∙ ap (λ (c : Given (Option Request)). (carried c).block) asked

  as_new : (s : Set) (b : List ℕ) → SameAnswers table s new → AsNew table s new b
  as_new s b same =
      record {
        answer = (same.step b).0 ∙ check_new b;
        block = (same.step b).1;
        place = λ long e. (same.step b).1 ∙ left_new b _ long (place_asked b e);
        unplace = λ long e. (same.step b).1 ∙ left_new b _ long (unplace_asked b e);
      }

-- ---- along a list
module _ (t : List Float) (b : Set) (ready : open_given ieee t b ≡ passed) where
  -- from a state that a list of calls has left
  each_from : (cs : List Call) (d : State) → left t b cs ≡ d.standing → (es : List Event) → EachEnds d es
  each_from cs d e [] = tt
  each_from cs d e (host_writes block ∷ es) = (tt, each_from cs (state block d.standing) e es)
  each_from cs d e (calls c ∷ es) =
      let after = left_then t b cs c e in
      (tt, each_from (cs ++ c ∷ []) (next d (calls c)) after es)
  each_from cs d e (steps ∷ es) =
      let s = d.standing in
      let call = lists.steps d.block in
      let here = sym (ap (λ (u : Set). standing s.table u) (step_left s.table s.set d.block)) in
      let after = left_then t b cs call e ∙ here in
      let Claim : Standing → Type 0 = λ x. (n : Set) → open_given ieee x.table n ≡ passed → SameAnswers x.table x.set (opened x.table n).set in
      let same = subst Claim e (every_list t b ready cs).answers in
      (λ n h. as_new s.table n h s.set d.block (same n h), each_from (cs ++ call ∷ []) (next d steps) after es)

pub every_panel : EveryPanel
every_panel t b ready block es = each_from t b ready [] (state block (opened t b)) refl es
