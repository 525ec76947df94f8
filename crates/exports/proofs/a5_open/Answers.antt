-- `a5_open` meets its contract: open's. Assumes nothing.
use mathlib.Core.Path.{ap, ◌∙◌}
use Rattle.answer.specs.Given.{status}
use Rattle.exports.proofs.a5_open.Goals as goal

pub returns-clause-answer : goal.returns-clause-answer
returns-clause-answer c = c.status.ensures ∙ ap status c.open-opened.ensures.answer

pub returns-clause-left : goal.returns-clause-left
returns-clause-left c = c.open-opened.ensures.left
