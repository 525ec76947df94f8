-- `ring::lower_counts` meets its contract. The loop's invariant: lowering the counts by the strikes still to come leaves what lowering them by all leaves.
-- Assumes nothing.
use Rattle.std.proofs.Common.{◌∙◌, arith}
use Rattle.window.proofs.Loops.{one_off, all_off}
use Rattle.window.proofs.ring.lower_counts.Goals as goal

pub loop-gone-preserved : goal.loop-gone-preserved
loop-gone-preserved c =
    (omega arith, rw c.lower_count.ensures (one_off _ _ c.loop-gone._gone _ _ c.loop-gone-test.true ∙ c.loop-gone.invariant.1))

pub returns : goal.returns
returns c = all_off _ _ c.loop-gone._gone _ _ c.loop-gone-test.false ∙ c.loop-gone.invariant.1
