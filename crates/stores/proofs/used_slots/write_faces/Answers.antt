-- `used_slots::write_faces` meets its contract, where the call was reflected. Assumes nothing.
use mathlib.Core.Path.{refl}
use Rattle.stores.proofs.used_slots.write_faces.Goals as goal

pub returns-then-reflected : goal.returns-then-reflected
returns-then-reflected c =
    rw (c.write_face_slot-then-reflected.ensures, c.write_face_slot.ensures, c.face_slot.ensures, c.source_slot.ensures, c.if-reflected.true) refl
