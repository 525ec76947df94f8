-- `boxes::a5_box_take` meets its contract: the box's own. Assumes nothing.
use mathlib.Core.Path.{ap, ◌∙◌}
use Rattle.answer.specs.Given.{status}
use Rattle.exports_tools.proofs.boxes.a5_box_take.Goals as goal

pub returns : goal.returns
returns c =
    let takes = c.take_in.ensures in
    rw (← c.face_point.ensures) record { answer = c.status.ensures ∙ ap status takes.answer; box = takes.box }
