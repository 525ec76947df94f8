-- `opened` meets its contract: an open comes to its answer on what is lent. Assumes nothing.
use Rattle.std.proofs.Common.{refl, ap, ◌∙◌}
use Rattle.replay.proofs.Told.{of_status, told_as}
use Rattle.replay_positions.proofs.opened.Goals as goal

pub returns : goal.returns
returns c =
    let lent = c.in_ok-frame.ensures in
    let stays = c.opened.ensures in
    let told = told_as _ _ c.told.ensures.answered c.told.ensures.refused ∙ ap of_status c.open.ensures.answer in
    told ∙ rw (lent.frame, lent.face, lent.sphere, c.lengths.ensures, stays.frame, stays.face, stays.sphere) refl
