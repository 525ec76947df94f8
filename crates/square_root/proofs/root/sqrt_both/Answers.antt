-- `root::sqrt_both` meets its contract: each root is that of its own pattern's value. Assumes nothing.
use mathlib.Core.Path.{ap, ◌∙◌}
use Rattle.arithmetic.specs.Sqrt.{sqrt}
use Rattle.square_root.proofs.root.sqrt_both.Goals as goal

pub returns : goal.returns
returns c = (c.root_value-first.ensures ∙ ap sqrt c.in-Some.ensures.is, c.root_value-second.ensures ∙ ap sqrt c.in-Some-pattern.ensures.is)
