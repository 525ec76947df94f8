-- `haversines` of a table that is handed over meets its contract. Assumes nothing.
use Rattle.nearest.proofs.origins.ArrayF6484Origins.haversines.Goals as goal

pub returns : goal.returns
returns c = c.haversines_in.ensures
