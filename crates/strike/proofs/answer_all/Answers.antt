-- `answer_all` meets its contract. Assumes nothing.
use native.Mathlib.Omega.{arith}
use Prim.Native.Nat.{◌≤◌}
use lib.ListN.{length}
use lib.Seq.{length-take-le}
use Rattle.strike_records.specs.Line.{LINE}
use Rattle.set.specs.Lent.{held}
use Rattle.strike_session.specs.Steps.{state_of}
use Rattle.strike_session.proofs.Arrived.{ended}
use Rattle.strike.proofs.answer_all.Goals as goal

pub returns-clause-ends : goal.returns-clause-ends
returns-clause-ends g c =
    let a = c.args in
    let q = c.read_all-at in
    let f = c.finish-written in
    let first = state_of a.stage 0 (held a.set.now) a.buffer.now in
    let last = state_of q.result.stage q.result.kept (held q.new.set) q.new.buffer in
    let roomy : LINE ≤ length q.new.out = omega (arith, c.requires.1.1, q.auto.out) in
    let e =
    ended (length a.buffer.now) (length a.out.now) f.result q.result.kept first last q.new.out f.new.out roomy
    (length-take-le q.result.kept q.new.buffer q.ensures.held) q.ensures.read.0 f.ensures in
    (record { read = q.ensures.read.0; written_is = e.written_is; line_is = e.line_is }, q.ensures.read.1)
