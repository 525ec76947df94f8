-- `with_tables::counts::place_of` meets its contract: a show stands before the companion. Assumes nothing.
use Rattle.std.proofs.Common.{◌<◌, arith}
use Rattle.replay_histories.proofs.with_tables.counts.place_of.Goals as goal

pub returns-in-Show-clause-not_refused : goal.returns-in-Show-clause-not_refused
returns-in-Show-clause-not_refused c _ = let before : 11 < 13 = omega arith in before
