-- `slots::a5_slot_state` meets its contract: what is put is what the companion gave. Assumes nothing.
use Rattle.exports.proofs.slots.a5_slot_state.Goals as goal

pub returns : goal.returns
returns c = rw (← c.store_named.ensures, ← c.slot_state-given.ensures) c.put.ensures
