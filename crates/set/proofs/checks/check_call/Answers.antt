-- `checks::check_call` meets its contract: where the set's check passes, the origin's decides. Assumes nothing.
use Rattle.set.proofs.checks.check_call.Goals as goal

pub returns : goal.returns
returns c = rw (← c.in_ok-check.ensures) c.check_origin.ensures
