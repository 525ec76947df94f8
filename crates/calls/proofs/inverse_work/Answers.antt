-- `inverse_work` meets its contract: what it shares with unplace, and its own end. Assumes nothing.
use mathlib.Core.Path.{sym, ap, ◌∙◌}
use Rattle.answer.specs.Answer.{given}
use Rattle.answer.proofs.Given.{handed_on}
use Rattle.dodecahedron.proofs.Steps.{by_core, by_end, by_answer}
use Rattle.calls.proofs.Ends.{inverse_ends}
use Rattle.calls.proofs.inverse_work.Goals as goal

pub returns-in_err-core : goal.returns-in_err-core
returns-in_err-core g c =
    let core = sym c.inverse_tested.ensures ∙ ap given c.in_err-core.was in
    handed_on _ _ c.from_residual.ensures ∙ by_core _ _ _ core ∙ inverse_ends _ _ _ _

pub returns-in_err-answer : goal.returns-in_err-answer
returns-in_err-answer g c =
    let core = sym c.inverse_tested.ensures ∙ ap given c.in_ok-core.was in
    let ends = sym c.finite_spherical.ensures ∙ ap given c.in_err-answer.was in
    handed_on _ _ c.from_residual-in_err-answer.ensures ∙ by_end _ _ _ _ core ends ∙ inverse_ends _ _ _ _

pub returns : goal.returns
returns g c =
    let core = sym c.inverse_tested.ensures ∙ ap given c.in_ok-core.was in
    let ends = sym c.finite_spherical.ensures ∙ ap given c.in_ok-answer.was in
    by_answer _ _ _ _ core ends ∙ inverse_ends _ _ _ _
