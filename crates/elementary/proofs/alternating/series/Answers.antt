-- `alternating::series` meets its contract. The loop's invariant: with the coefficients to come, p gives what the first does with all. Assumes nothing.
use Rattle.std.proofs.Common.{add-one, drop-cons}
use Rattle.std.proofs.lemmas.List.{drop_all}
use Rattle.std.specs.Float.{nan}
use Rattle.elementary.specs.Sine.{series}
use Rattle.elementary.proofs.alternating.series.Goals as goal

pub loop-c-preserved : goal.loop-c-preserved
unfolding series
loop-c-preserved c =
    let l = c.loop-c in
    let here = rw (drop-cons c.args.rest.now l.c-index nan c.loop-c-test.true) at l.invariant in
    rw add-one here

pub returns : goal.returns
unfolding series
returns c = rw (drop_all c.loop-c.c-index c.args.rest.now c.loop-c-test.false) at c.loop-c.invariant
