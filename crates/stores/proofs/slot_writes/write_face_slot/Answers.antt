-- `slot_writes::write_face_slot` meets its contract. Assumes nothing.
use Rattle.stores.specs.Slots.{slot_written}
use Rattle.stores.specs.Used.{face_written}
use Rattle.stores.proofs.slot_writes.write_face_slot.Goals as goal

pub returns-then-not-is_filled : goal.returns-then-not-is_filled
unfolding face_written slot_written
returns-then-not-is_filled c =
    simp (c.write_slot.ensures, c.face_run.ensures, c.face_triangle.ensures, ← c.is_filled.ensures, c.if-not-is_filled.true)

pub returns-else-not-is_filled : goal.returns-else-not-is_filled
unfolding face_written slot_written
returns-else-not-is_filled c = simp (← c.is_filled.ensures, c.if-not-is_filled.false)
