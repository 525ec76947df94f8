-- `session::finish` meets its contract, stage by stage. Assumes nothing.
use Rattle.std.proofs.Common.{rules}
use mathlib.Core.Path.{◌≡◌, sym, ap}
use native.Mathlib.Omega.{arith}
use Rattle.strike_records.specs.Line.{refusal_line}
use Rattle.strike_session.specs.Pieces.{end_line}
use Rattle.strike_session.specs.declared.session.Stage.{Stage}
use Rattle.strike_session.proofs.Feeding.{last_record, between_records}
use Rattle.strike_session.proofs.Results.{room_as, room_none}
use Rattle.strike_session.proofs.session.finish.Goals as goal

-- between two records
pub returns-in_default : goal.returns-in_default
returns-in_default c =
    let a = c.args in
    let between = between_records a.stage a.kept c.in-Records.is (omega arith) in
    room_as _ (sym between) (room_none a.out.now)

-- behind the last record
pub returns-in_default-2 : goal.returns-in_default-2
returns-in_default-2 c =
    let a = c.args in
    let over = last_record a.stage a.kept c.in-Records.is (omega arith) in
    room_as _ (sym over) (room_none a.out.now)

-- stopped
pub returns-in_default-3 : goal.returns-in_default-3
returns-in_default-3 c =
    let a = c.args in
    let over = ap (λ (t : Stage). end_line t a.kept) (sym c.in_default.is) in
    room_as _ over (room_none a.out.now)

-- within a record
pub returns-in-Records : goal.returns-in-Records
returns-in-Records c =
    let a = c.args in
    let cut : end_line a.stage a.kept ≡ refusal_line 13 = search rules in
    room_as _ (sym cut) c.write_fitting-in-Records.ensures
