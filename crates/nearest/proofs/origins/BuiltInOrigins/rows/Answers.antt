-- `rows` of the built-in table meets its contract. Assumes nothing.
use Rattle.nearest.proofs.origins.BuiltInOrigins.rows.Goals as goal

pub returns : goal.returns
returns c = c.built_in.ensures
