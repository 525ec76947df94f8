-- `put` meets its contract: an answer's numbers are written. Assumes nothing.
use mathlib.Core.Path.{refl}
use Rattle.border.proofs.answers.put.Goals as goal

pub returns-in-Ok : goal.returns-in-Ok
returns-in-Ok g c = rw c.in-Ok.is record { status_is = refl; to_is = c.numbers.ensures }
