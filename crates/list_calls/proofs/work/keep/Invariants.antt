-- `work::keep` meets its contract. The loop's invariant: placing in turn what is still to come, on the set as it is, leaves what placing all of
-- them leaves, and the set is lent still.
use mathlib.Core.Path.{◌≡◌}
use lib.ListN.{drop}
use Rattle.arithmetic.specs.Arith.{ieee}
use Rattle.set.specs.Lent.{held, SameBuffers}
use Rattle.place_list.specs.Lists.{placed_in_turn}
use Rattle.list_calls.proofs.work.keep.Given as goal

abbrev pub invariant-loop-position : goal.invariant-loop-position
invariant-loop-position g l =
    let in_turn = placed_in_turn ieee (g.O.Origins.table l.origins) in
    SameBuffers l.fn.set l.set × ((in_turn (held l.set) (drop l.position-index l.positions)).set ≡ (in_turn (held l.fn.set) l.positions).set)
