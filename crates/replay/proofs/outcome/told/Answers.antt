-- `told` meets its contract: a refusal comes to its number. Assumes nothing.
use Rattle.replay.proofs.outcome.told.Goals as goal

pub returns-in-Err-clause-refused : goal.returns-in-Err-clause-refused
returns-in-Err-clause-refused g c = rw (c.in-Err.is, ← c.number.ensures) c.refused.ensures
