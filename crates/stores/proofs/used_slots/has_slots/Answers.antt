-- `used_slots::has_slots` meets its contract. Assumes nothing.
use mathlib.Core.Path.{sym, ap, ◌∙◌}
use Rattle.stores.specs.Used.{passes, has_slots}
use Rattle.stores.proofs.Within.{passes_given}
use Rattle.stores.proofs.used_slots.has_slots.Goals as goal

pub returns-then-is_ok : goal.returns-then-is_ok
unfolding has_slots
returns-then-is_ok c =
    let passed = ap passes (sym c.check_call.ensures) ∙ passes_given _ ∙ sym c.is_ok.ensures.value ∙ c.if-is_ok.true in
    rw passed

pub returns-else-is_ok : goal.returns-else-is_ok
unfolding has_slots
returns-else-is_ok c =
    let refused = ap passes (sym c.check_call.ensures) ∙ passes_given _ ∙ sym c.is_ok.ensures.value ∙ c.if-is_ok.false in
    rw (refused, c.if-is_ok.false)
