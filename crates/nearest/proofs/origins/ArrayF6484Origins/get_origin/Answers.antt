-- `get_origin` of a table that is handed over meets its contract. Assumes nothing.
use Rattle.nearest.proofs.origins.ArrayF6484Origins.get_origin.Goals as goal

pub returns : goal.returns
returns c = c.origin_in.ensures
