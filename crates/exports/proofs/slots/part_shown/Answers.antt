-- `slots::part_shown` meets its contract. Assumes nothing.
use mathlib.Core.Path.{sym, ap, ◌∙◌}
use native.Mathlib.Omega.{arith}
use Rattle.answer.specs.Answer.{given}
use Rattle.stores.proofs.ShowFits.{slot_lies}
use Rattle.exports.proofs.slots.part_shown.Goals as goal

pub overflow_mul-result : goal.overflow_mul-result
overflow_mul-result c =
    rw c.width.ensures (omega (arith, (slot_lies _ _ _ _ _ (sym c.slot_state.ensures ∙ ap given c.in_ok-slot_state.was)).start))

pub overflow_add-result : goal.overflow_add-result
overflow_add-result c =
    rw c.width.ensures (omega (arith, (slot_lies _ _ _ _ _ (sym c.slot_state.ensures ∙ ap given c.in_ok-slot_state.was)).start))
