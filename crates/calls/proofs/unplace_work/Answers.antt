-- `unplace_work` meets its contract: what it shares with inverse, and its own end. Assumes nothing.
use mathlib.Core.Path.{sym, ap, ◌∙◌}
use Rattle.answer.specs.Answer.{given}
use Rattle.answer.proofs.Given.{handed_on, then_answered}
use Rattle.dodecahedron.proofs.Sizes.{inverse_colatitude}
use Rattle.dodecahedron.proofs.Steps.{by_core, by_end, by_answer}
use Rattle.calls.proofs.Ends.{unplace_ends}
use Rattle.calls.proofs.unplace_work.Goals as goal

pub returns-in_err-core : goal.returns-in_err-core
returns-in_err-core g c =
    let core = sym c.inverse_tested.ensures ∙ ap given c.in_err-core.was in
    handed_on _ _ c.from_residual.ensures ∙ by_core _ _ _ core ∙ unplace_ends _ _ _ _

pub to_lon_lat-requires : goal.to_lon_lat-requires
to_lon_lat-requires g c =
    let core = sym c.inverse_tested.ensures ∙ ap given c.in_ok-core.was in
    inverse_colatitude _ _ _ _ c.in_ok-core.core (then_answered _ _ _ core).1

pub returns-in_err-answer : goal.returns-in_err-answer
returns-in_err-answer g c =
    let core = sym c.inverse_tested.ensures ∙ ap given c.in_ok-core.was in
    let ends = sym (rw c.to_lon_lat.ensures at c.finite_lon_lat.ensures) ∙ ap given c.in_err-answer.was in
    handed_on _ _ c.from_residual-in_err-answer.ensures ∙ by_end _ _ _ _ core ends ∙ unplace_ends _ _ _ _

pub returns : goal.returns
returns g c =
    let core = sym c.inverse_tested.ensures ∙ ap given c.in_ok-core.was in
    let ends = sym (rw c.to_lon_lat.ensures at c.finite_lon_lat.ensures) ∙ ap given c.in_ok-answer.was in
    by_answer _ _ _ _ core ends ∙ unplace_ends _ _ _ _
