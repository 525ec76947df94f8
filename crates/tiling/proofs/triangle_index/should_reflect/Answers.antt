-- `triangle_index::should_reflect` meets its contract. Assumes nothing.
use mathlib.Core.Path.{refl}
use lib.Ieee.{of_bits}
use Rattle.arithmetic.specs.Arith.{ieee}
use Rattle.elementary.specs.Sine.{cos}
use Rattle.tiling.specs.Index.{should_reflect}
use Rattle.tiling.proofs.Sizes.{normalized_inside}
use Rattle.tiling.proofs.triangle_index.should_reflect.Goals as goal

pub cos_inside-requires : goal.cos_inside-requires
unfolding should_reflect cos of_bits
cos_inside-requires c = rw c.normalize_gamma-beta.ensures (normalized_inside c.args.polar.gamma)

pub returns : goal.returns
unfolding should_reflect cos of_bits
returns c = rw (c.cos_inside.ensures, c.normalize_gamma-beta.ensures) (refl {a = should_reflect ieee c.args.polar})
