-- `still_short` meets its contract: a byte of the test. Assumes nothing.
use mathlib.Core.Path.{◌≡◌, refl, ◌∙◌}
use mathlib.Core.Bool.{Bool, true, false, cond}
use lib.Dec.{ltb}
use mir.Val.{bool_byte}
use Rattle.turns.specs.Turns.{still_short}
use Rattle.turns.proofs.still_short.Goals as goal

byte : (b : Bool) → bool_byte b ≡ cond b 1 0
byte true = refl
byte false = refl

pub returns : goal.returns
unfolding still_short
returns c = c.from.ensures ∙ byte (ltb c.args.grant c.args.wish)
