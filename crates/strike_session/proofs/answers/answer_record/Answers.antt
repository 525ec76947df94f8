-- `answers::answer_record` meets its contract, by what the record asks for. Assumes nothing.
use mathlib.Core.Path.{sym, ap, ◌∙◌}
use Rattle.answer.specs.Answer.{given}
use Rattle.answer.specs.Given.{answered}
use Rattle.arithmetic.specs.Arith.{ieee}
use Rattle.origin.specs.Origins.{ORIGINS}
use Rattle.set.specs.Lent.{held}
use Rattle.strike_records.specs.Line.{refusal_line}
use Rattle.strike_records.specs.Reply.{Reply, reply_to, reply}
use Rattle.strike_records.proofs.Written.{writes_as}
use Rattle.strike_session.proofs.Replies.{replies_as}
use Rattle.strike_session.proofs.answers.answer_record.Goals as goal

pub returns-in-Ok-Place-clause-replies : goal.returns-in-Ok-Place-clause-replies
unfolding reply
returns-in-Ok-Place-clause-replies c =
    let s = held c.args.set.now in
    let asked = sym c.decode.ensures ∙ ap given c.in-Ok-Place.is ∙ ap answered c.in-Ok-Place.field-0-is in
    replies_as _ (ap (reply_to ieee ORIGINS s) (sym asked)) c.answer_place.ensures.replies

pub returns-in-Ok-Unplace-clause-replies : goal.returns-in-Ok-Unplace-clause-replies
unfolding reply
returns-in-Ok-Unplace-clause-replies c =
    let s = held c.args.set.now in
    let asked = sym c.decode.ensures ∙ ap given c.in-Ok-Unplace.is ∙ ap answered c.in-Ok-Unplace.field-0-is in
    replies_as _ (ap (reply_to ieee ORIGINS s) (sym asked)) c.answer_unplace.ensures.replies

pub returns-in-Err-clause-replies : goal.returns-in-Err-clause-replies
unfolding reply
returns-in-Err-clause-replies c =
    let s = held c.args.set.now in
    let asked = sym c.decode.ensures ∙ ap given c.in-Err.is in
    let same = ap (reply_to ieee ORIGINS s) (sym asked) in
    let number = ap refusal_line c.number.ensures in
    record {
      lines = writes_as c.write_refusal.ensures _ (number ∙ ap (λ (r : Reply). r.lines) same);
      left = ap (λ (r : Reply). r.set) same;
    }
