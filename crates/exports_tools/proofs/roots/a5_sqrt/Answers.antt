-- `roots::a5_sqrt` meets its contract. Assumes nothing.
use Rattle.exports_tools.proofs.roots.a5_sqrt.Goals as goal

pub returns : goal.returns
returns c = c.sqrt.ensures
