-- `projection::forward_core` meets its contract: refused with what the triangles are, or done with them. Assumes nothing.
-- `triangles` says that they are those of the polar point about the origin's axis.
use mathlib.Core.Path.{sym, ap, ◌∙◌}
use Rattle.answer.specs.Answer.{given}
use Rattle.answer.proofs.Given.{handed_on}
use Rattle.arithmetic.specs.Arith.{ieee}
use Rattle.set.proofs.Lengths.{call_passed}
use Rattle.dodecahedron.proofs.Worked.{forward_refused, forward_done}
use Rattle.calls.proofs.projection.forward_core.Goals as goal

pub frame_constants-requires : goal.frame_constants-requires
frame_constants-requires c =
    (call_passed _ _ c.args.on.passes).0.frame

pub returns-in_err-taken : goal.returns-in_err-taken
returns-in_err-taken c =
    let triangles = rw (c.polar_about-polar.ensures, c.to_cartesian-unprojected.ensures) at c.take.ensures in
    handed_on _ _ c.from_residual.ensures
    ∙ forward_refused ieee _ _ _ _ _ c.args.on.passes (sym triangles ∙ ap given c.in_err-taken.was)

pub returns : goal.returns
returns c =
    let triangles = rw (c.polar_about-polar.ensures, c.to_cartesian-unprojected.ensures) at c.take.ensures in
    rw (c.forward-answer.ensures, c.frame_constants.ensures, c.to_cartesian-unprojected.ensures)
    (forward_done ieee _ _ _ _ _ c.args.on.passes (sym triangles ∙ ap given c.in_ok-taken.was))
