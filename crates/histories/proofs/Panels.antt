-- Steps of the caption panel on sets that calls have left: the block that a step leaves is the same on two such sets, since place and unplace
-- give the same there. Assumes nothing.
use mathlib.Core.Path.{◌≡◌, refl, ap, ◌∙◌}
use mathlib.Core.List.{List}
use Prim.Native.Nat.{ℕ}
use lib.Ieee.{Float}
use Rattle.std.specs.Prelude.{Option, Some, None}
use Rattle.answer.specs.Given.{Given, answered, refused, and_then}
use Rattle.arithmetic.specs.Arith.{ieee}
use Rattle.origin.specs.Table.{check_table}
use Rattle.set.specs.Set.{Set}
use Rattle.dodecahedron.specs.Work.{answer_of}
use Rattle.panel.specs.Registers.{check_block, placed, unplaced}
use Rattle.panel.specs.Step.{panel, block_by, command_in, carried_out, check_step, unless_refused, step_on}
use Rattle.strike_records.specs.declared.record.Request.{Request}
use Rattle.strike_records.specs.declared.record.Request.TheVariants as request
use Rattle.histories.proofs.Told.{Since}
use Rattle.histories.proofs.Taken.{Good}
use Rattle.histories.proofs.Answers.{same_checks, place_same, unplace_same}

module _ (table : List Float) (w v : Since) (s n : Set) (good : Good table w s) (also : Good table v n) (b : List ℕ) where
  pub step_check : check_step ieee table s b ≡ check_step ieee table n b
  unfolding check_step
  step_check = ap (λ (g : Given (Unit {0})). and_then (check_block b) (and_then g (check_table ieee table))) (same_checks table w v s n good also)

  command_same : (k : Given (Option Request)) → (carried_out ieee table s b k).block ≡ (carried_out ieee table n b k).block
  command_same (answered None) = refl
  command_same (answered (Some (request.Place p))) = ap (λ (g : Given _). block_by placed b (answer_of g)) (place_same table w v s n good also p)
  command_same (answered (Some (request.Unplace f o))) = ap (λ (g : Given _). block_by unplaced b (answer_of g)) (unplace_same table w v s n good also f o)
  command_same (refused n) = refl

  pub step_same : (step_on ieee table s b).left.block ≡ (step_on ieee table n b).left.block
  step_same = by (check_step ieee table s b) _ step_check
    where
      there : Given (Unit {0}) → List ℕ
      there g = (unless_refused g (carried_out ieee table n b (command_in ieee b)) (panel b n)).block

      by : (g h : Given (Unit {0})) → g ≡ h → (unless_refused g (carried_out ieee table s b (command_in ieee b)) (panel b s)).block ≡ there h
      by (answered u) h e = command_same (command_in ieee b) ∙ ap there e
      by (refused m) h e = ap there e
