-- `steps::block` meets its contract: each number stands at its own bytes. Assumes nothing.
use Rattle.std.proofs.Common.{refl}
use Rattle.replay_call.specs.Made.{block_of}
use Rattle.replay_call.proofs.steps.block.Goals as goal

pub returns : goal.returns
unfolding block_of
returns c =
    rw (c.copy_from_slice-2.ensures.after, c.copy_from_slice.ensures.after, c.to_be_bytes-2.ensures, c.to_be_bytes.ensures) refl
