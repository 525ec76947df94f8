-- `slots::a5_show` meets its contract: what is put is what `part_shown` gave. Assumes nothing.
use mathlib.Core.Bool.{Bool}
use mathlib.Core.List.{List}
use Prim.Native.Nat.{ℕ}
use denote.Triple.Both.{Both}
use Rattle.answer.specs.Given.{Given, answered, refused, bind}
use Rattle.border.specs.Returns.{Returns}
use Rattle.border.specs.Calls.{part}
use Rattle.exports.proofs.slots.a5_show.Goals as goal

-- an answer of another form, as C is told of it
shown : (g : Given Bool) (f : Bool → List ℕ) (r : ℕ) (to : Both (List ℕ) (List ℕ)) → Returns (bind g λ b. answered (f b)) r to part → Returns g r to f
shown (answered b) f r to h = record { status_is = h.status_is; to_is = h.to_is }
shown (refused n) f r to h = record { status_is = h.status_is; to_is = h.to_is }

pub returns : goal.returns
returns c = shown _ _ _ _ (rw (← c.store_named.ensures, ← c.part_shown-given.ensures) c.put.ensures)
