-- The set that a call of crate `histories` leaves, with a table. Definitions only.
use Rattle.std.specs.Prelude.{List, Float}
use Rattle.set.specs.Set.{Set}
use Rattle.histories.specs.Lists.{Call, standing, step}

abbrev pub leaves : List Float → Set → Call → Set
leaves table s c = (step (standing table s) c).set
