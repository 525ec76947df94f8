-- `used_slots::write_used` meets its contract. Assumes nothing.
use mathlib.Core.Path.{◌≡◌, sym, ◌∙◌}
use Rattle.arithmetic.specs.Arith.{ieee}
use Rattle.set.proofs.Lengths.{call_passed}
use Rattle.stores.specs.Used.{faces_written, sphere_written, written_if_there}
use Rattle.stores.proofs.Within.{sphere_below, has_slots_lem, written_there}
use Rattle.stores.proofs.used_slots.write_used.Goals as goal

pub write_faces-requires : goal.write_faces-requires
write_faces-requires c =
    let there = has_slots_lem _ c.args.used (sym (rw c.view.ensures at c.has_slots.ensures) ∙ c.if-has_slots.true) in
    (there.1, (call_passed _ _ there.0).0.faces)

pub write_sphere_slot-requires : goal.write_sphere_slot-requires
write_sphere_slot-requires c =
    let there = has_slots_lem _ c.args.used (sym (rw c.view.ensures at c.has_slots.ensures) ∙ c.if-has_slots.true) in
    let fits = call_passed _ _ there.0 in
    (rw c.sphere_slot-slot.ensures (sphere_below _ _ c.args.used.reflected fits.1 there.1), fits.0.spheres)

pub returns-then-has_slots-clause-written : goal.returns-then-has_slots-clause-written
unfolding sphere_written
returns-then-has_slots-clause-written c =
    let there = has_slots_lem _ c.args.used (sym (rw c.view.ensures at c.has_slots.ensures) ∙ c.if-has_slots.true) in
    let written = written_there _ c.args.used ieee there.0 there.1 in
    let faces : c.write_faces.new.store ≡ faces_written ieee c.args.set.now.face_store.now c.args.used.index c.args.used.reflected =
    c.write_faces.ensures in
    rw (written, c.write_sphere_slot.ensures, c.sphere_slot-slot.ensures, faces)

pub returns-else-has_slots-clause-written : goal.returns-else-has_slots-clause-written
unfolding written_if_there
returns-else-has_slots-clause-written c = rw (sym (rw c.view.ensures at c.has_slots.ensures) ∙ c.if-has_slots.false)
