-- `roots::a5_sqrt_rounds` meets its contract. Assumes nothing.
use Rattle.exports_tools.proofs.roots.a5_sqrt_rounds.Goals as goal

pub returns : goal.returns
returns c = c.sqrt_rounds.ensures
