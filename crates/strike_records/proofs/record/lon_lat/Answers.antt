-- `record::lon_lat` meets its contract. Assumes nothing.
use lib.Ieee.{of_bits}
use Rattle.strike_records.specs.Record.{lon_lat_in, 1e7}
use Rattle.strike_records.proofs.record.lon_lat.Goals as goal

pub returns : goal.returns
unfolding lon_lat_in 1e7 of_bits
returns c = rw (c.signed.ensures, c.signed-2.ensures)
