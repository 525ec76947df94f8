-- `table::origin_in` meets its contract: the chunk at the index is the row. Assumes nothing.
use native.Mathlib.Omega.{arith}
use Rattle.origin.proofs.Chunks.{chunk_row}
use Rattle.origin.proofs.table.origin_in.Goals as goal

pub returns : goal.returns
returns c =
    rw c.from.ensures (chunk_row c.args.table.now c.as_chunks.result.0.now c.args.id c.as_chunks.ensures.front (omega (arith, c.told-table)))
