-- `lend` meets its contract: the first results are lent, and those behind them stay. Assumes nothing.
use Rattle.std.proofs.Common.{◌≡◌, take, drop, ap}
use Rattle.answer.specs.Answer.{given}
use Rattle.arithmetic.specs.Arith.{ieee}
use Rattle.set.specs.Lent.{held}
use Rattle.place_list.specs.Lists.{Called, called, place_list_on}
use Rattle.replay_lent.specs.Lists.{with_rest}
use Rattle.replay_lend_lists.proofs.lend.Goals as goal

pub returns-clause-listed : goal.returns-clause-listed
returns-clause-listed g c =
    let a = c.args in
    let call = c.place_list-answer in
    let lent : called (given call.result) call.new.results (held call.new.set)
    ≡ place_list_on ieee (g.O.Origins.table a.origins) (held a.set.now) (take a.n a.positions.now) (take a.m a.results) = call.ensures.listed in
    ap (λ (l : Called). with_rest l (drop a.m a.results)) lent
