-- `answers::answer_unplace` meets its contract, where unplace answers. Assumes nothing.
use mathlib.Core.Path.{sym, ap, ◌∙◌}
use Rattle.answer.specs.Answer.{given}
use Rattle.strike_records.specs.Line.{lon_lat_line}
use Rattle.strike_records.specs.Reply.{line_of}
use Rattle.strike_records.proofs.Written.{writes_as}
use Rattle.strike_session.proofs.answers.answer_unplace.Goals as goal

pub returns-in-Ok-clause-replies : goal.returns-in-Ok-clause-replies
returns-in-Ok-clause-replies c =
    let call = c.unplace.ensures.leaves in
    let answer = ap given (sym c.in-Ok.is) ∙ call.answer in
    record { lines = writes_as c.write_lon_lat.ensures _ (ap (line_of lon_lat_line) answer); left = call.left }
