-- `forward_passed` meets its contract: it ends with what its core or the test of its answer refuses, or with both answered. Assumes nothing.
use mathlib.Core.Path.{sym, ap, ◌∙◌}
use Rattle.answer.specs.Answer.{given}
use Rattle.answer.proofs.Given.{handed_on}
use Rattle.coordinates.specs.Conversions.{finite_face}
use Rattle.dodecahedron.proofs.Steps.{by_core, by_end, by_answer}
use Rattle.calls.proofs.forward_passed.Goals as goal

pub returns-in_err-core : goal.returns-in_err-core
returns-in_err-core g c =
    let e = c.on_origin.ensures in
    let core = sym (rw (e.set, e.origin, e.id) at c.forward_core.ensures) ∙ ap given c.in_err-core.was in
    handed_on _ _ c.from_residual.ensures ∙ by_core finite_face _ _ core

pub returns-in_err-answer : goal.returns-in_err-answer
returns-in_err-answer g c =
    let e = c.on_origin.ensures in
    let core = sym (rw (e.set, e.origin, e.id) at c.forward_core.ensures) ∙ ap given c.in_ok-core.was in
    let ends = sym c.finite_face.ensures ∙ ap given c.in_err-answer.was in
    handed_on _ _ c.from_residual-in_err-answer.ensures ∙ by_end finite_face _ _ _ core ends

pub returns : goal.returns
returns g c =
    let e = c.on_origin.ensures in
    let core = sym (rw (e.set, e.origin, e.id) at c.forward_core.ensures) ∙ ap given c.in_ok-core.was in
    let ends = sym c.finite_face.ensures ∙ ap given c.in_ok-answer.was in
    by_answer finite_face _ _ _ core ends
