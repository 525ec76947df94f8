-- `rows` of a table that is handed over meets its contract. Assumes nothing.
use mathlib.Core.Path.{refl}
use Rattle.nearest.proofs.origins.ArrayF6484Origins.rows.Goals as goal

pub returns : goal.returns
returns c = refl
