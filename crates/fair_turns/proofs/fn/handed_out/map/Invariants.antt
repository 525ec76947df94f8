-- What `handed_out` counts for one channel: the smaller of its wish and the level. Assumes nothing.
use Rattle.std.proofs.Common.{◌≡◌}
use Prim.Native.Nat.{min}
use Rattle.fair_turns.proofs.fn.handed_out.map.Given as goal

abbrev pub ensures : goal.ensures
ensures l r = r ≡ min l.wish.entry.now l.level
