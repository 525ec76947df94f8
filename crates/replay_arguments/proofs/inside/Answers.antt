-- `inside` meets its contract: what is let in is not outside. Assumes nothing.
use Rattle.std.proofs.Common.{sym, ◌∙◌}
use Rattle.replay_arguments.proofs.inside.Goals as goal

pub returns : goal.returns
returns c = sym c.is_outside.ensures ∙ c.if-is_outside.false
