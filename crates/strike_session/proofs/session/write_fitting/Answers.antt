-- `session::write_fitting` meets its contract. Assumes nothing.
use mathlib.Core.Path.{sym, ap, ◌∙◌}
use Prim.Native.Nat.{◌≤◌, zero-le}
use native.Mathlib.Omega.{arith}
use lib.ListN.{length}
use Rattle.answer.specs.Answer.{number_of}
use Rattle.strike_records.specs.Line.{LINE, refusal_line}
use Rattle.strike_records.proofs.Written.{writes_as}
use Rattle.strike_records.proofs.Fits.{refusal_fits}
use Rattle.strike_records.proofs.Written.{writes_none}
use Rattle.strike_session.proofs.Results.{no_room, with_room}
use Rattle.strike_session.proofs.session.write_fitting.Goals as goal

pub returns-then-out-lt-LINE : goal.returns-then-out-lt-LINE
returns-then-out-lt-LINE c =
    let a = c.args in
    let narrow = no_room (length a.out.now) (refusal_line (number_of a.refusal)) c.if-out-lt-LINE.true in
    record { line_is = writes_as (writes_none a.out.now) _ (sym narrow); within = zero-le }

pub returns : goal.returns
returns c =
    let a = c.args in
    let wrote = c.write_refusal.ensures in
    let room : LINE ≤ length a.out.now = c.if-out-lt-LINE.false in
    let whole = with_room (length a.out.now) (refusal_line (number_of a.refusal)) room in
    record {
      line_is = writes_as wrote _ (ap refusal_line c.number.ensures ∙ sym whole);
      within = omega (arith, refusal_fits c.number.result, wrote.end_is);
    }
