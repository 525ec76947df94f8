-- `feed::feed` meets its contract, stage by stage. Assumes nothing.
use mathlib.Core.Path.{sym, ap, ◌∙◌}
use Prim.Native.Nat.{zero-le}
use lib.ListN.{length}
use Rattle.arithmetic.specs.Arith.{ieee}
use Rattle.origin.specs.Origins.{ORIGINS}
use Rattle.set.specs.Lent.{held}
use Rattle.strike_session.specs.Pieces.{still, fed}
use Rattle.strike_session.specs.declared.session.Stage.{Stage}
use Rattle.strike_session.specs.declared.session.Stage.TheVariants.{Header, Records}
use Rattle.strike_session.proofs.Feeding.{bounded}
use Rattle.strike_session.proofs.Results.{feeds_as, feeds_none}
use Rattle.strike_session.proofs.feed.feed.Goals as goal

pub returns-in-Header : goal.returns-in-Header
returns-in-Header c =
    let a = c.args in
    let s = held a.set.now in
    let room = length a.out.now in
    let f = c.feed_header.ensures.fed in
    let same = ap (λ (t : Stage). fed ieee ORIGINS t s a.input.now room) (sym c.in-Header.is) in
    record { same = search; fed = feeds_as _ same f; within = bounded ieee ORIGINS s Header a.input.now room _ _ f.taken_is f.lines.end_is }

pub returns-in-Records : goal.returns-in-Records
unfolding fed
returns-in-Records c =
    let a = c.args in
    let s = held a.set.now in
    let room = length a.out.now in
    let f = c.feed_records.ensures.fed in
    let same = ap (λ (t : Stage). fed ieee ORIGINS t s a.input.now room) (sym c.in-Records.is) in
    record { same = search; fed = feeds_as _ same f; within = bounded ieee ORIGINS s (Records _) a.input.now room _ _ f.taken_is f.lines.end_is }

pub returns-in-Stopped : goal.returns-in-Stopped
unfolding fed
returns-in-Stopped c =
    let a = c.args in
    let s = held a.set.now in
    let stopped = c.in-Stopped.is in
    let same = ap (λ (t : Stage). still t s) stopped ∙ ap (λ (t : Stage). fed ieee ORIGINS t s a.input.now (length a.out.now)) (sym stopped) in
    record { same = search; fed = feeds_as _ same (feeds_none s a.out.now a.stage); within = (zero-le, zero-le) }
