-- `windows::a5_window_add` meets its contract: the addition's. Assumes nothing.
use mathlib.Core.Path.{ap, ◌∙◌}
use Rattle.answer.specs.Given.{status}
use Rattle.exports_tools.proofs.windows.a5_window_add.Goals as goal

pub returns : goal.returns
returns c =
    let added = c.add-given.ensures in
    record { status = c.status.ensures ∙ ap status added.answer; window = added.window }
