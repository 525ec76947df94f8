-- `triangle_index::normalize_gamma` meets its contract. Assumes nothing.
use mathlib.Core.Path.{refl}
use lib.Ieee.{of_bits}
use Rattle.arithmetic.specs.Arith.{ieee}
use Rattle.tiling.specs.Index.{normalize_gamma}
use Rattle.tiling.proofs.triangle_index.normalize_gamma.Goals as goal

pub returns : goal.returns
unfolding normalize_gamma of_bits
returns c = rw c.round-center.ensures (refl {a = normalize_gamma ieee c.args.gamma})
