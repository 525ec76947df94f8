-- `set_calls::made` meets its contract: an open comes to its answer on what is lent. Assumes nothing.
use Rattle.std.proofs.Common.{ap, ◌∙◌}
use Rattle.answer.specs.Given.{status}
use Rattle.replay.specs.declared.outcome.Outcome.{Outcome}
use Rattle.replay.proofs.Told.{told_as}
use Rattle.replay_calls.proofs.set_calls.made.Goals as goal

pub returns-in_ok-frame-in-Open : goal.returns-in_ok-frame-in-Open
returns-in_ok-frame-in-Open g c _ =
    let lent = c.in_ok-frame-in-Open.ensures in
    rw (← lent.frame, ← lent.face, ← lent.sphere)
    (ap (λ (o : Outcome). o.status) (told_as _ _ c.told.ensures.answered c.told.ensures.refused) ∙ ap status c.open.ensures.answer)
