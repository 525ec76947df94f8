-- `record::face` meets its contract. Assumes nothing.
use lib.Ieee.{of_bits}
use Rattle.strike_records.specs.Record.{face_in, 1e9}
use Rattle.strike_records.proofs.record.face.Goals as goal

pub returns : goal.returns
unfolding face_in 1e9 of_bits
returns c = rw (c.signed.ensures, c.signed-2.ensures)
