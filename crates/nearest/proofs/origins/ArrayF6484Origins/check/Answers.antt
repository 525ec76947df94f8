-- `check` of a table that is handed over meets its contract. Assumes nothing.
use Rattle.nearest.proofs.origins.ArrayF6484Origins.check.Goals as goal

pub returns : goal.returns
returns c = c.check_rows.ensures
