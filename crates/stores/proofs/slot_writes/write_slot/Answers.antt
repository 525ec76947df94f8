-- `slot_writes::write_slot` meets its contract. Assumes nothing.
use Prim.Native.Nat.{◌+◌}
use native.Mathlib.Omega.{arith}
use lib.Ieee.{of_bits}
use lib.ListN.{length}
use Rattle.arithmetic.specs.Numbers.{1·0}
use Rattle.stores.proofs.Runs.{put_marked}
use Rattle.stores.proofs.slot_writes.write_slot.Goals as goal

pub returns : goal.returns
unfolding of_bits
returns c =
    let a = c.args in
    put_marked a.store.now a.at (a.at + 1 + length a.numbers.now) 1·0 _ a.numbers.now (omega arith) c.copy_from_slice.ensures.after (omega arith)
