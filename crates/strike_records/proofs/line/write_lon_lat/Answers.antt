-- `line::write_lon_lat` meets its contract. Assumes nothing.
use native.Mathlib.Omega.{arith}
use Rattle.strike_records.specs.Line.{lon_lat_line}
use Rattle.strike_records.proofs.Written.{writes_byte, writes_more}
use Rattle.strike_records.proofs.line.write_lon_lat.Goals as goal

pub returns : goal.returns
unfolding lon_lat_line
returns c =
    let a = c.args in
    let floats = c.write_pair in
    let letter = writes_byte a.out.now a.at 85 (omega arith) in
    writes_more letter _ floats.new.out floats.result (omega arith) floats.ensures
