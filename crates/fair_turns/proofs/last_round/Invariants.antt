-- `last_round` meets its contract. The loop's invariant: the grants written, followed by the round over channel i and those behind it, are the round
-- over all. Assumes nothing.
use mathlib.Core.Path.{◌≡◌}
use mathlib.Core.List.{◌++◌}
use lib.ListN.{length, take, drop}
use Rattle.turns.specs.Turns.{capped, round}
use Rattle.fair_turns.proofs.last_round.Given as goal

abbrev pub invariant-loop-i : goal.invariant-loop-i
invariant-loop-i l =
    (length l.grants ≡ length l.wishes)
    × (take l.i l.grants ++ round l.left (drop l.i l.wishes) (capped l.level (drop l.i l.wishes)) ≡ round l.calls l.wishes (capped l.level l.wishes))
