-- `feed::feed_header` meets its contract: a header that has not arrived, a right one, and a wrong one without and with room for its
-- line. Assumes nothing.
use mathlib.Core.Path.{refl, sym, ap, ◌∙◌}
use mathlib.Core.List.{List}
use Prim.Native.Nat.{ℕ}
use lib.ListN.{length}
use Rattle.std.proofs.lemmas.List.{take_rest}
use Rattle.arithmetic.specs.Arith.{ieee}
use Rattle.origin.specs.Origins.{ORIGINS}
use Rattle.set.specs.Lent.{held}
use Rattle.strike_records.specs.Line.{refusal_line}
use Rattle.strike_session.specs.Session.{MAX_RECORDS}
use Rattle.strike_session.specs.Pieces.{answerable, wrong_header, records_fed}
use Rattle.strike_session.specs.declared.session.Stage.TheVariants.{Header}
use Rattle.strike_records.proofs.Written.{writes_as}
use Rattle.strike_session.proofs.Feeding.{fed_short, fed_headed, fed_narrow, fed_wrong}
use Rattle.strike_session.proofs.Results.{feeds_as, feeds_none}
use Rattle.strike_session.proofs.feed.feed_header.Goals as goal

pub returns-then-input-lt5-clause-fed : goal.returns-then-input-lt5-clause-fed
returns-then-input-lt5-clause-fed c =
    let a = c.args in
    let s = held a.set.now in
    let short = fed_short ieee ORIGINS s a.input.now (length a.out.now) c.if-input-lt5.true in
    feeds_as _ (sym short) (feeds_none s a.out.now Header)

pub returns-then-is_header-clause-fed : goal.returns-then-is_header-clause-fed
returns-then-is_header-clause-fed c =
    let a = c.args in
    let s = held a.set.now in
    let room = length a.out.now in
    let good = sym c.is_header.ensures ∙ c.if-is_header.true in
    let headed = fed_headed ieee ORIGINS s a.input.now room c.if-input-lt5.false good in
    let behind = ap (λ (l : List ℕ). records_fed ieee ORIGINS 5 MAX_RECORDS s l (answerable MAX_RECORDS l room)) (take_rest a.input.now 5) in
    feeds_as _ (behind ∙ sym headed) c.feed_records.ensures.fed

pub returns-then-out-lt-LINE-clause-fed : goal.returns-then-out-lt-LINE-clause-fed
returns-then-out-lt-LINE-clause-fed c =
    let a = c.args in
    let s = held a.set.now in
    let wrong = sym c.is_header.ensures ∙ c.if-is_header.false in
    let narrow = fed_narrow ieee ORIGINS s a.input.now (length a.out.now) c.if-input-lt5.false wrong c.if-out-lt-LINE.true in
    feeds_as _ (sym narrow) (feeds_none s a.out.now Header)

pub returns-clause-fed : goal.returns-clause-fed
returns-clause-fed c =
    let a = c.args in
    let s = held a.set.now in
    let wrong = sym c.is_header.ensures ∙ c.if-is_header.false in
    let refused = fed_wrong ieee ORIGINS s a.input.now (length a.out.now) c.if-input-lt5.false wrong c.if-out-lt-LINE.false in
    let line = writes_as c.write_refusal-written.ensures _ (ap refusal_line c.number.ensures) in
    feeds_as {f = wrong_header} _ (sym refused) (record { stage_is = refl; taken_is = refl; lines = line; left = refl })
