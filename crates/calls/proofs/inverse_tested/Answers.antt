-- `inverse_tested` meets its contract: refused by its tests, or what its core comes to. Assumes nothing.
use mathlib.Core.Path.{sym, ap, ◌∙◌}
use Rattle.answer.specs.Answer.{given}
use Rattle.answer.proofs.Given.{handed_on}
use Rattle.calls.proofs.Ends.{tests_passed}
use Rattle.calls.proofs.inverse_tested.Goals as goal

pub returns-in_err-check_call : goal.returns-in_err-check_call
returns-in_err-check_call g c =
    let tests = sym c.check_call.ensures ∙ ap given c.in_err-check_call.was in
    handed_on _ _ c.from_residual.ensures ∙ sym (rw tests)

pub returns-in_err-check_face : goal.returns-in_err-check_face
returns-in_err-check_face g c =
    let tests = sym c.check_call.ensures ∙ ap given c.in_ok-check_call.was in
    let own = sym c.check_face.ensures ∙ ap given c.in_err-check_face.was in
    handed_on _ _ c.from_residual-in_err-check_face.ensures ∙ sym (rw (tests, own))

pub on_origin-requires : goal.on_origin-requires
on_origin-requires g c =
    let known = tests_passed _ _ _ (sym c.check_call.ensures ∙ ap given c.in_ok-check_call.was) in
    record { tests = known.0; id = known.1 }

pub returns : goal.returns
returns g c =
    let tests = sym c.check_call.ensures ∙ ap given c.in_ok-check_call.was in
    let own = sym c.check_face.ensures ∙ ap given c.in_ok-check_face.was in
    let e = c.on_origin.ensures in
    rw (e.set, e.origin, e.id) at c.inverse_core.ensures ∙ sym (rw (tests, own))
