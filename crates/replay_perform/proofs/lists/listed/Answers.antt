-- `lists::listed` meets its contract: a list of positions near the call's is lent. Assumes nothing.
use Rattle.std.proofs.Common.{ap, ◌∙◌, arith}
use Rattle.set.specs.Lent.{held}
use Rattle.place_list.specs.Lists.{Called}
use Rattle.replay_call.proofs.Near.{listed_left}
use Rattle.replay_perform.proofs.lists.listed.Goals as goal

pub returns-clause-becomes : goal.returns-clause-becomes
returns-clause-becomes g c =
    let a = c.args in
    ap (λ (l : Called). l.left.set) c.lend.ensures.listed
    ∙ listed_left _ (held a.set.now) a.near _ c.from-n.ensures c.from-m.ensures _ c.positions-list.ensures c.blank.ensures (omega arith)
