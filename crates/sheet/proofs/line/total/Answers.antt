-- `line::total` meets its contract: twelve counts of 32 bits fit. Assumes nothing.
use Rattle.std.proofs.Common.{◌≤◌, arith, length, rules}
use Rattle.std.proofs.iter.runs.Sources.{sums}
use Rattle.sheet.proofs.line.total.Goals as goal

pub sum-requires-clause-fits : goal.sum-requires-clause-fits
sum-requires-clause-fits c = let long : length c.args.counts.now ≤ 12 = omega arith in search (rules, sums)
