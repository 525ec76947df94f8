-- `signs::negative` meets its contract: std's sign bit is the definition's where there is one. Assumes nothing.
use mathlib.Core.Path.{sym, ◌∙◌}
use Rattle.elementary.proofs.SignBit.{negative_number}
use Rattle.elementary.proofs.signs.negative.Goals as goal

pub returns-then-not-is_nan : goal.returns-then-not-is_nan
returns-then-not-is_nan c =
    let number = sym c.is_nan.ensures.value ∙ c.if-not-is_nan.true in
    c.is_sign_negative.ensures ∙ sym (negative_number c.args.x number)
