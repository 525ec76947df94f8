-- `a5_panel_step` meets its contract: the step's. Assumes nothing.
use mathlib.Core.Path.{ap, ◌∙◌}
use borrow.Author.Rules.{rules}
use Rattle.answer.specs.Given.{status}
use Rattle.exports_panel.proofs.a5_panel_step.Goals as goal

pub returns : goal.returns
returns c =
    let steps = c.step-stepped.ensures.steps in
    record { status_is = c.status.ensures ∙ ap status steps.answer; carries = search rules }
