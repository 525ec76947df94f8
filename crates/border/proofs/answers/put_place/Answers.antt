-- `put_place` meets its contract: a place's origin and its point are written. Assumes nothing.
use mathlib.Core.Path.{refl, ap}
use mathlib.Core.List.{List}
use lib.Ieee.{Float}
use Rattle.border.proofs.answers.put_place.Goals as goal

pub returns-in-Ok : goal.returns-in-Ok
returns-in-Ok c = rw c.in-Ok.is record { status_is = refl; to_is = ap (λ (face : List Float). (c.in-Ok.place.origin, face)) c.numbers.ensures }
