-- `lend` meets its contract: the first points are lent, and those behind them stay. Assumes nothing.
use Rattle.std.proofs.Common.{◌≡◌, take, drop, ap}
use Rattle.answer.specs.Answer.{given}
use Rattle.arithmetic.specs.Arith.{ieee}
use Rattle.set.specs.Lent.{held}
use Rattle.region_work.specs.Region.{RegionCalled, region_called, region_on}
use Rattle.replay_lent.specs.Regions.{with_rest}
use Rattle.replay_lend_regions.proofs.lend.Goals as goal

pub returns-clause-outlined : goal.returns-clause-outlined
returns-clause-outlined g c =
    let a = c.args in
    let call = c.region-answer in
    let lent : region_called (given call.result) call.new.points (held call.new.set)
    ≡ region_on ieee (g.O.Origins.table a.origins) (held a.set.now) (take a.n a.positions.now) (take a.m a.points) = call.ensures.outlined in
    ap (λ (l : RegionCalled). with_rest l (drop a.m a.points)) lent
