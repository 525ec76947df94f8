-- `last_level` meets its contract. The loop's invariant: with the level all calls suffice, and the two counts are those of the level. The measure is what
-- remains. Assumes nothing.
use Rattle.turns.proofs.Level.{Reached}
use Rattle.fair_turns.proofs.last_level.Given as goal

abbrev pub invariant-loop-short : goal.invariant-loop-short
invariant-loop-short l = Reached l.wishes l.level l.left l.short

abbrev pub decreases-loop-short : goal.decreases-loop-short
decreases-loop-short l = l.left
