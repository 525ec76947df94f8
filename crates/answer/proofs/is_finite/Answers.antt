-- `is_finite` meets its contract: std's test is the definition's. Assumes nothing.
use mathlib.Core.Path.{◌∙◌}
use Rattle.answer.proofs.Finite.{finite_is}
use Rattle.answer.proofs.is_finite.Goals as goal

pub returns : goal.returns
returns c = c.is_finite.ensures.value ∙ finite_is c.args.x
