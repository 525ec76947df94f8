-- `region::region` meets its contract: `work` works the region out, and `write_out` writes the points. Of these functions only the contracts
-- are known (Whole.antt). Assumes nothing.
use Rattle.std.proofs.Common.{ap}
use Rattle.answer.specs.Answer.{given}
use Rattle.answer.proofs.Given.{handed_on}
use Rattle.list_calls.proofs.WholeRegion.{region_refused, region_answered}
use Rattle.list_calls.proofs.region.region.Goals as goal

pub returns-in_err-done-clause-outlined : goal.returns-in_err-done-clause-outlined
returns-in_err-done-clause-outlined g c =
    region_refused (g.O.Origins.table c.args.origins) _ c.args.positions.now c.args.points.now _ _ c.work.ensures.worked
    _ _ (ap given c.in_err-done.was) (handed_on _ _ c.from_residual.ensures)

pub returns-clause-outlined : goal.returns-clause-outlined
returns-clause-outlined g c =
    region_answered (g.O.Origins.table c.args.origins) _ c.args.positions.now c.args.points.now _ _ c.work.ensures.worked
    c.in_ok-done.done _ (ap given c.in_ok-done.was) c.write_out.ensures
