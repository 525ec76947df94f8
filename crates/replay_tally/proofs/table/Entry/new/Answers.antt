-- `Entry::new` meets its contract: its function has as many arguments as are said. Assumes nothing.
use Rattle.replay_tally.proofs.table.Entry.new.Goals as goal

pub returns-clause-arguments : goal.returns-clause-arguments
returns-clause-arguments c v = v.new.ensures.arguments
