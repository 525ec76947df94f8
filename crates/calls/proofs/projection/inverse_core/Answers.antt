-- `projection::inverse_core` meets its contract: refused with what the triangles are, with 19, or done. Assumes nothing.
use mathlib.Core.Path.{sym, ap, ◌∙◌}
use Rattle.answer.specs.Answer.{given}
use Rattle.answer.proofs.Given.{handed_on}
use Rattle.arithmetic.specs.Arith.{ieee}
use Rattle.set.proofs.Lengths.{call_passed}
use Rattle.dodecahedron.proofs.Worked.{inverse_refused, inverse_outside, inverse_done}
use Rattle.calls.proofs.projection.inverse_core.Goals as goal

pub frame_constants-requires : goal.frame_constants-requires
frame_constants-requires c =
    (call_passed _ _ c.args.on.passes).0.frame

pub returns-in_err-taken : goal.returns-in_err-taken
returns-in_err-taken c =
    let triangles = rw c.to_polar.ensures at c.take.ensures in
    handed_on _ _ c.from_residual.ensures
    ∙ inverse_refused ieee _ _ _ _ _ c.args.on.passes (sym triangles ∙ ap given c.in_err-taken.was)

pub returns-in_err-unprojected : goal.returns-in_err-unprojected
returns-in_err-unprojected c =
    let triangles = rw c.to_polar.ensures at c.take.ensures in
    let answer = rw c.frame_constants.ensures at c.inverse.ensures in
    handed_on _ _ c.from_residual-in_err-unprojected.ensures
    ∙ inverse_outside ieee _ _ _ _ _ _ c.args.on.passes
    (sym triangles ∙ ap given c.in_ok-taken.was)
    (sym answer ∙ ap given c.in_err-unprojected.was)

pub returns : goal.returns
returns c =
    let triangles = rw c.to_polar.ensures at c.take.ensures in
    let answer = rw c.frame_constants.ensures at c.inverse.ensures in
    rw c.to_spherical-answer.ensures
    (inverse_done ieee _ _ _ _ _ _ c.args.on.passes
    (sym triangles ∙ ap given c.in_ok-taken.was)
    (sym answer ∙ ap given c.in_ok-unprojected.was))
