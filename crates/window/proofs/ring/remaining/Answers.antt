-- `ring::remaining` meets its contract. The loop's invariant: as many remain of the strikes still looked at as of all. Assumes nothing.
use Rattle.std.proofs.Common.{◌∙◌, arith}
use Rattle.window.proofs.Loops.{stays, goes, none_left}
use Rattle.window.proofs.ring.remaining.Goals as goal

pub returns-then-saturating_sub-lt-SPAN : goal.returns-then-saturating_sub-lt-SPAN
returns-then-saturating_sub-lt-SPAN c =
    stays _ _ _ _ _ _ c.saturating_sub.ensures c.loop-gone-test.true c.if-saturating_sub-lt-SPAN.true ∙ c.loop-gone.invariant.1

pub loop-gone-preserved : goal.loop-gone-preserved
loop-gone-preserved c =
    (omega arith, goes _ _ _ _ _ _ c.saturating_sub.ensures c.loop-gone-test.true c.if-saturating_sub-lt-SPAN.false ∙ c.loop-gone.invariant.1)

pub returns : goal.returns
returns c = none_left _ _ _ c.loop-gone.gone _ c.loop-gone-test.false ∙ c.loop-gone.invariant.1
