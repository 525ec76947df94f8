-- `sheet` meets its contract: that of the counts. Assumes nothing.
use Rattle.sheet.proofs.sheet.Goals as goal

pub returns : goal.returns
returns c = c.print.ensures
