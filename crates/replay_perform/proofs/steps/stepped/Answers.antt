-- `steps::stepped` meets its contract: the step is made on the block of the call's numbers. Assumes nothing.
use Rattle.std.proofs.Common.{ℕ, List, ap, ◌∙◌}
use Rattle.set.specs.Lent.{held}
use Rattle.histories.specs.Lists.{steps}
use Rattle.histories.proofs.Left.{step_left}
use Rattle.replay_call.specs.Left.{leaves}
use Rattle.replay_perform.proofs.steps.stepped.Goals as goal

pub returns-clause-becomes : goal.returns-clause-becomes
returns-clause-becomes g c =
    let table = g.O.Origins.table c.args.origins in
    let s = held c.args.set.now in
    let block_is = ap (λ (b : List ℕ). leaves table s (steps b)) c.block-bytes.ensures in
    c.step-answer.ensures.steps.carries.left ∙ step_left table s c.block-bytes.result ∙ block_is
