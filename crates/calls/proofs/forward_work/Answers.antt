-- `forward_work` meets its contract: refused by its tests, or what follows them. Assumes nothing.
use mathlib.Core.Path.{sym, ap, ◌∙◌}
use Rattle.answer.specs.Answer.{given}
use Rattle.answer.proofs.Given.{handed_on}
use Rattle.arithmetic.specs.Arith.{ieee}
use Rattle.coordinates.proofs.Sizes.{passed_inside}
use Rattle.dodecahedron.proofs.Ended.{forward_is}
use Rattle.calls.proofs.Ends.{tests_passed}
use Rattle.calls.proofs.forward_work.Goals as goal

pub returns-in_err-check_call : goal.returns-in_err-check_call
returns-in_err-check_call g c =
    let tests = sym c.check_call.ensures ∙ ap given c.in_err-check_call.was in
    handed_on _ _ c.from_residual.ensures ∙ sym (forward_is ieee _ _ _ _ ∙ rw tests)

pub returns-in_err-check_spherical : goal.returns-in_err-check_spherical
returns-in_err-check_spherical g c =
    let tests = sym c.check_call.ensures ∙ ap given c.in_ok-check_call.was in
    let own = sym c.check_spherical.ensures ∙ ap given c.in_err-check_spherical.was in
    handed_on _ _ c.from_residual-in_err-check_spherical.ensures ∙ sym (forward_is ieee _ _ _ _ ∙ rw (tests, own))

pub forward_passed-requires : goal.forward_passed-requires
forward_passed-requires g c =
    let known = tests_passed _ _ _ (sym c.check_call.ensures ∙ ap given c.in_ok-check_call.was) in
    record {
      tests = known.0;
      id = known.1;
      inside = passed_inside _ (sym c.check_spherical.ensures ∙ ap given c.in_ok-check_spherical.was);
    }

pub returns : goal.returns
returns g c =
    let tests = sym c.check_call.ensures ∙ ap given c.in_ok-check_call.was in
    let own = sym c.check_spherical.ensures ∙ ap given c.in_ok-check_spherical.was in
    c.forward_passed.ensures ∙ sym (forward_is ieee _ _ _ _ ∙ rw (tests, own))
