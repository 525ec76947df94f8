-- `channels::a5_fair_turns` meets its contract: that of fair turns. Assumes nothing.
use mathlib.Core.Path.{ap, ◌∙◌}
use Rattle.answer.specs.Given.{status}
use Rattle.exports_tools.proofs.channels.a5_fair_turns.Goals as goal

pub returns-clause-grants : goal.returns-clause-grants
returns-clause-grants c = c.fair_turns-given.ensures.grants

pub returns-clause-answer : goal.returns-clause-answer
returns-clause-answer c = c.status.ensures ∙ ap status c.fair_turns-given.ensures.answer
