-- `replay_strike::answer` is safe and ends. The loop's invariant: no more was taken than has arrived, and no more written than there is
-- room for. The measure is what has yet to arrive. Assumes nothing.
use mathlib.Core.Path.{◌≡◌}
use Prim.Native.Nat.{◌≤◌, ◌-◌}
use lib.ListN.{length}
use Rattle.set.specs.Lent.{SameBuffers}
use Rattle.replay_strike.proofs.answer.Given as goal

abbrev pub invariant-loop-arrived : goal.invariant-loop-arrived
invariant-loop-arrived l = (l.arrived ≤ length l.input)
    × (l.standing.taken ≤ l.arrived)
    × (l.standing.written ≤ length l.lines)
    × (length l.lines ≡ length l.initial.lines)
    × SameBuffers l.fn.set l.set

abbrev pub decreases-loop-arrived : goal.decreases-loop-arrived
decreases-loop-arrived l = length l.input - l.arrived
