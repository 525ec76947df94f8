-- `results::check_counts` meets its contract. Assumes nothing.
use borrow.Author.Tests.{eq-eqb, ne_eqb}
use Rattle.place_list.specs.Lists.{check_counts}
use Rattle.list_calls.proofs.results.check_counts.Goals as goal

pub returns-then-positions-results : goal.returns-then-positions-results
unfolding check_counts
returns-then-positions-results c = rw (ne_eqb _ _ c.if-positions-results.true)

pub returns : goal.returns
unfolding check_counts
returns c = rw (eq-eqb _ _ c.if-positions-results.false)
