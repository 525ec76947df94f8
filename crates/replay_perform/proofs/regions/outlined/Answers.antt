-- `regions::outlined` meets its contract: a region of positions near the call's is lent. Assumes nothing.
use Rattle.std.proofs.Common.{ap, ◌∙◌, arith}
use Rattle.set.specs.Lent.{held}
use Rattle.region_work.specs.Region.{RegionCalled}
use Rattle.replay_call.proofs.Near.{outlined_left}
use Rattle.replay_perform.proofs.regions.outlined.Goals as goal

pub returns-clause-becomes : goal.returns-clause-becomes
returns-clause-becomes g c =
    let a = c.args in
    ap (λ (l : RegionCalled). l.set) c.lend.ensures.outlined
    ∙ outlined_left _ (held a.set.now) a.near _ c.from-n.ensures c.from-m.ensures _ c.positions-outline.ensures c.blank.ensures (omega arith)
