-- What `short_of` counts for one channel: 1 if it wishes for more than the level. Assumes nothing.
use Rattle.std.proofs.Common.{◌≡◌}
use Rattle.turns.specs.Turns.{still_short}
use Rattle.fair_turns.proofs.fn.short_of.map.Given as goal

abbrev pub ensures : goal.ensures
ensures l r = r ≡ still_short l.wish.entry.now l.level
