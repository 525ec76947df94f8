-- `answers::answer_records` meets its contract. The loop's invariant: so far it is the contract with the index for the count. Assumes nothing.
use mathlib.Core.Path.{◌≡◌}
use lib.ListN.{length}
use Rattle.arithmetic.specs.Arith.{ieee}
use Rattle.origin.specs.Origins.{ORIGINS}
use Rattle.set.specs.Lent.{SameBuffers, between}
use Rattle.strike_records.specs.Reply.{replies}
use Rattle.strike_records.specs.Writes.{change}
use Rattle.strike_session.specs.Replies.{Replies}
use Rattle.strike_session.proofs.answers.answer_records.Given as goal

abbrev pub invariant-loop-bytes : goal.invariant-loop-bytes
invariant-loop-bytes l =
    Replies (between l.fn.set l.set) (change l.initial.out l.out) 0 l.written (λ s. replies ieee ORIGINS s l.input l.bytes-index)
    × (length l.out ≡ length l.initial.out)
    × SameBuffers l.fn.set l.set
