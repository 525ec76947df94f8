-- `point_triangles::take` meets its contract. Assumes nothing.
-- `set_passes` says that the set passed 1 to 4.
use mathlib.Core.Path.{sym, ap, ◌∙◌}
use Rattle.answer.specs.Answer.{given}
use Rattle.answer.proofs.Given.{handed_on}
use Rattle.arithmetic.specs.Arith.{ieee}
use Rattle.set.proofs.Lengths.{call_passed}
use Rattle.stores.proofs.Within.{face_below}
use Rattle.stores.specs.Taken.{face_for}
use Rattle.stores.proofs.TakenWithin.{set_refused, taken_refused, taken_answered, used_within}
use Rattle.stores.proofs.point_triangles.take.Goals as goal

pub returns-in_err-check_call : goal.returns-in_err-check_call
returns-in_err-check_call c =
    handed_on _ _ c.from_residual.ensures
    ∙ sym (set_refused ieee _ _ _ _ _ (sym c.check_call.ensures ∙ ap given c.in_err-check_call.was))

pub invariant_of-on : goal.invariant_of-on
invariant_of-on c = record { passes = sym c.check_call.ensures ∙ ap given c.in_ok-check_call.was }

pub returns-in_err-used : goal.returns-in_err-used
returns-in_err-used c =
    let set_passes = sym c.check_call.ensures ∙ ap given c.in_ok-check_call.was in
    let refused = sym c.take_used.ensures ∙ ap given c.in_err-used.was in
    handed_on _ _ c.from_residual-in_err-used.ensures ∙ sym (taken_refused ieee _ _ _ _ _ set_passes refused)

pub take_face-face_triangle-requires : goal.take_face-face_triangle-requires
take_face-face_triangle-requires c =
    let set_passes = sym c.check_call.ensures ∙ ap given c.in_ok-check_call.was in
    let fits = call_passed _ _ set_passes in
    let found = sym c.take_used.ensures ∙ ap given c.in_ok-used.was in
    let within = used_within ieee _ _ _ _ _ fits.1 found in
    (rw c.face_slot.ensures (face_below _ c.in_ok-used.used.reflected within.1), fits.0.faces)

pub returns : goal.returns
unfolding face_for
returns c =
    let set_passes = sym c.check_call.ensures ∙ ap given c.in_ok-check_call.was in
    let found = sym c.take_used.ensures ∙ ap given c.in_ok-used.was in
    rw (c.take_face-face_triangle.ensures, c.face_slot.ensures)
    (sym (taken_answered ieee _ _ _ _ _ set_passes found))
