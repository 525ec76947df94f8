-- The closure of `short_of` meets its clause. Assumes nothing.
use mathlib.Core.Path.{refl}
use Rattle.fair_turns.proofs.fn.short_of.map.Goals as goal

pub returns : goal.returns
returns c = (c.still_short.ensures, refl)
