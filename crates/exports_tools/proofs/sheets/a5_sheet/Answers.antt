-- `sheets::a5_sheet` meets its contract: the sheet's. Assumes nothing.
use mathlib.Core.Path.{ap, ◌∙◌}
use Rattle.answer.specs.Given.{status}
use Rattle.exports_tools.proofs.sheets.a5_sheet.Goals as goal

pub returns : goal.returns
returns c =
    let sheet = c.sheet-given.ensures in
    record { status = c.status.ensures ∙ ap status sheet.answer; page = sheet.page }
