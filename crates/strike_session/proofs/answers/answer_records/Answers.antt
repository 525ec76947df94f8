-- `answers::answer_records` meets its contract. The loop's invariant: so far it is the contract with the index for the count. Assumes nothing.
use mathlib.Core.Path.{◌≡◌, refl, ◌∙◌}
use native.Mathlib.Omega.{arith}
use lib.Seq.{length-take-le}
use Rattle.arithmetic.specs.Arith.{ieee}
use Rattle.origin.specs.Origins.{ORIGINS}
use Rattle.set.specs.Lent.{held}
use Rattle.strike_records.specs.Reply.{replies}
use Rattle.strike_records.proofs.Fits.{lines_fit}
use Rattle.strike_session.proofs.Replies.{replies_more, part_is}
use Rattle.strike_records.proofs.Written.{writes_none}
use Rattle.strike_session.proofs.answers.answer_records.Goals as goal

pub loop-bytes-init : goal.loop-bytes-init
unfolding replies
loop-bytes-init c = (record { lines = writes_none _; left = refl }, refl, search)

pub answer_record-written-requires : goal.answer_record-written-requires
answer_record-written-requires c =
    let a = c.args in
    let l = c.loop-bytes in
    let lines = lines_fit ieee ORIGINS (held a.set.now) a.input.now l.bytes-index in
    let many = length-take-le a.count c.as_chunks.result.0.now (omega (arith, c.as_chunks.ensures.front_len)) in
    omega (arith, lines, many, l.invariant.0.lines.end_is, l.invariant.1)

pub loop-bytes-preserved : goal.loop-bytes-preserved
loop-bytes-preserved c =
    let a = c.args in
    let l = c.loop-bytes in
    let call = c.answer_record-written in
    let k = l.bytes-index in
    let s = held a.set.now in
    let fit = lines_fit ieee ORIGINS s a.input.now k in
    let many = length-take-le a.count c.as_chunks.result.0.now (omega (arith, c.as_chunks.ensures.front_len)) in
    let part = part_is a.input.now a.count k _ c.as_chunks.ensures.front c.requires.0 (omega (arith, many)) in (
      replies_more ieee ORIGINS s a.input.now k part (omega (arith, fit, many)) l.invariant.0 call.ensures.replies,
      call.auto.out ∙ l.invariant.1,
      search,
    )

pub returns-clause-replies : goal.returns-clause-replies
returns-clause-replies c =
    let a = c.args in
    let l = c.loop-bytes in
    let many = length-take-le a.count c.as_chunks.result.0.now (omega (arith, c.as_chunks.ensures.front_len)) in
    let all : l.bytes-index ≡ a.count = omega (arith, many) in
    rw all at l.invariant.0
