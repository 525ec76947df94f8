-- `triangle_index::modulo` meets its contract. Assumes nothing.
use Rattle.tiling.proofs.Modulo.{minus_modulo, plus_modulo}
use Rattle.tiling.proofs.triangle_index.modulo.Goals as goal

pub returns-then-below : goal.returns-then-below
returns-then-below c = rw c.if-below.true (minus_modulo c.args.k)

pub returns-else-below : goal.returns-else-below
returns-else-below c = rw c.if-below.false (plus_modulo c.args.k)
