-- `haversines` of the built-in table meets its contract. Assumes nothing.
use Rattle.nearest.proofs.origins.BuiltInOrigins.haversines.Goals as goal

pub returns : goal.returns
returns c = c.haversines.ensures
