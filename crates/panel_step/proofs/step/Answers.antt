-- `step` meets its contract: the registers are the block itself, where it has 32 bytes. Assumes nothing.
use mathlib.Core.Path.{◌≡◌, refl, sym, ap, ◌∙◌}
use mathlib.Core.List.{List}
use Prim.Native.Nat.{ℕ}
use lib.Ieee.{Float}
use lib.ListN.{length}
use borrow.Author.Tests.{eq-eqb, ne_eqb}
use Rattle.answer.specs.Given.{refused, passed}
use Rattle.answer.specs.Answer.{given}
use Rattle.answer.proofs.Given.{handed_on}
use Rattle.arithmetic.specs.Arith.{Arith, ieee}
use Rattle.set.specs.Set.{Set}
use Rattle.set.specs.Checks.{check_with}
use Rattle.panel.specs.Registers.{BLOCK, check_block}
use Rattle.strike_records.specs.Writes.{change}
use Rattle.panel.specs.Step.{check_step, carried_out, command_in, step_on}
use Rattle.panel.specs.Results.{Carries, Steps}
use Rattle.panel_step.proofs.step.Goals as goal

module _ (A : Arith) (table : List Float) (s : Set) (b : List ℕ) where
  -- a block of another length is refused with 23, and the checks of a whole one are the set's
  other_length : (length b ≡ BLOCK → ⊥) → check_step A table s b ≡ refused 23
  unfolding check_step check_block
  other_length h = rw (ne_eqb (length b) BLOCK h) refl

  whole : length b ≡ BLOCK → check_step A table s b ≡ check_with A table s
  unfolding check_step check_block
  whole h = rw (eq-eqb (length b) BLOCK h) refl

  -- the step refused, and the command carried out
  refused_by : (n : ℕ) → check_step A table s b ≡ refused n → Steps (change s s) (change b b) (refused n) (step_on A table)
  refused_by n e = record { answer = rw e refl; carries = record { block_is = rw e refl; left = rw e refl } }

  carried_by : (t : Set) (r d : List ℕ) → check_step A table s b ≡ passed → r ≡ b
      → Carries (change s t) (change r d) (λ s b. carried_out A table s b (command_in A b)) → Steps (change s t) (change b d) passed (step_on A table)
  carried_by t r d e same h =
      record { answer = rw e refl; carries = record { block_is = rw (e, sym same) h.block_is; left = rw (e, sym same) h.left } }

pub returns-in_default-clause-steps : goal.returns-in_default-clause-steps
returns-in_default-clause-steps g c =
    refused_by _ _ _ _ _ (other_length _ _ _ _ c.in_default.ensures.cases)

pub returns-in_err-check_with-clause-steps : goal.returns-in_err-check_with-clause-steps
returns-in_err-check_with-clause-steps g c =
    let block = c.in-Some.ensures.cases in
    let set = ap (check_with ieee _) (sym c.view.ensures) ∙ sym c.check_with.ensures ∙ ap given c.in_err-check_with.was in
    rw (handed_on _ _ c.from_residual.ensures, block.same) (refused_by _ _ _ _ _ (whole _ _ _ _ block.long ∙ set))

pub returns-clause-steps : goal.returns-clause-steps
returns-clause-steps g c =
    let block = c.in-Some.ensures.cases in
    let set = ap (check_with ieee _) (sym c.view.ensures) ∙ sym c.check_with.ensures ∙ ap given c.in_ok-check_with.was in
    carried_by _ _ _ _ _ _ _ (whole _ _ _ _ block.long ∙ set) block.same c.carry_out.ensures.carries
