-- `rows` meets its contract: what is copied are the table's numbers. Assumes nothing.
use Rattle.border.proofs.rows.rows.Goals as goal

pub returns : goal.returns
returns c = c.copy_from_slice.ensures.after
