-- `slot_writes::write_sphere_slot` meets its contract. Assumes nothing.
use Rattle.stores.specs.Slots.{slot_written}
use Rattle.stores.proofs.slot_writes.write_sphere_slot.Goals as goal

pub returns-then-not-is_filled : goal.returns-then-not-is_filled
unfolding slot_written
returns-then-not-is_filled c =
    simp (c.write_slot.ensures, c.sphere_run.ensures, ← c.is_filled.ensures, c.if-not-is_filled.true)

pub returns-else-not-is_filled : goal.returns-else-not-is_filled
unfolding slot_written
returns-else-not-is_filled c = simp (← c.is_filled.ensures, c.if-not-is_filled.false)
