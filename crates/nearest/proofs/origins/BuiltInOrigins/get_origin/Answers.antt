-- `get_origin` of the built-in table meets its contract. Assumes nothing.
use Rattle.nearest.proofs.origins.BuiltInOrigins.get_origin.Goals as goal

pub returns : goal.returns
returns c = c.get_origin.ensures
