-- The loop's invariant, once i positions are placed: the results and the set are those of turn i (Loop's `Turned`), and the set is lent still.
use Rattle.arithmetic.specs.Arith.{ieee}
use Rattle.set.specs.Lent.{held, SameBuffers}
use Rattle.list_calls.proofs.Loop.{Turned}
use Rattle.list_calls.proofs.place_list.Given as goal

abbrev pub invariant-loop-i : goal.invariant-loop-i
invariant-loop-i g l = SameBuffers l.fn.set l.set
    × Turned ieee (g.O.Origins.table l.origins) (held l.fn.set) l.positions l.fn.results l.i l.results (held l.set)
