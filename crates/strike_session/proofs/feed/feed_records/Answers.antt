-- `feed::feed_records` meets its contract. Assumes nothing.
use mathlib.Core.Path.{◌≡◌, refl, ap, ◌∙◌}
use Prim.Native.Nat.{min}
use lib.ListN.{length}
use Rattle.arithmetic.specs.Arith.{ieee}
use Rattle.origin.specs.Origins.{ORIGINS}
use Rattle.set.specs.Set.{Set}
use Rattle.set.specs.Lent.{held}
use Rattle.strike_session.specs.Pieces.{answerable, Fed, records_fed}
use Rattle.strike_session.proofs.Results.{feeds_as}
use Rattle.strike_session.proofs.feed.feed_records.Goals as goal

pub returns-clause-fed : goal.returns-clause-fed
unfolding records_fed
returns-clause-fed c =
    let a = c.args in
    let s = held a.set.now in
    let count : c.min-count.result ≡ answerable a.left a.input.now (length a.out.now) =
    c.min-count.ensures ∙ ap (min a.left) c.min.ensures in
    let answered = c.answer_records-written.ensures.replies in
    let fed : Set → Fed = λ t. records_fed ieee ORIGINS a.header a.left t a.input.now c.min-count.result in
    feeds_as {f = fed} _ (ap (records_fed ieee ORIGINS a.header a.left s a.input.now) count)
    (record { stage_is = refl; taken_is = refl; lines = answered.lines; left = answered.left })
