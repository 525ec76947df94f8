-- `check` of the built-in table meets its contract. Assumes nothing.
use mathlib.Core.Path.{sym}
use Rattle.origin.proofs.BuiltInPasses.{built_in_passes}
use Rattle.nearest.proofs.origins.BuiltInOrigins.check.Goals as goal

pub returns : goal.returns
returns c = sym built_in_passes
