-- `session::begin` meets its contract, as open answers or refuses. Assumes nothing.
use mathlib.Core.Path.{sym, ap, ◌∙◌}
use Rattle.answer.specs.Answer.{given}
use Rattle.strike_session.specs.Pieces.{begin_stage, begin_line}
use Rattle.strike_session.proofs.Results.{room_as, room_none}
use Rattle.strike_session.proofs.session.begin.Goals as goal

pub returns-in-Ok : goal.returns-in-Ok
returns-in-Ok c =
    let call = c.open.ensures in
    let opened = sym call.answer ∙ ap given c.in-Ok.is in
    record {
      stage_is = ap begin_stage (sym opened);
      line = room_as _ (ap begin_line (sym opened)) (room_none c.args.out.now);
      left = call.left;
    }

pub returns-in-Err : goal.returns-in-Err
returns-in-Err c =
    let call = c.open.ensures in
    let refused = sym call.answer ∙ ap given c.in-Err.is in
    record {
      stage_is = ap begin_stage (sym refused);
      line = room_as _ (ap begin_line (sym refused)) c.write_fitting.ensures;
      left = call.left;
    }
