-- `line::write_place` meets its contract. Assumes nothing.
use mathlib.Core.List.{◌∷◌}
use native.Mathlib.Omega.{arith}
use lib.ListN.{length-set}
use Rattle.strike_records.specs.Line.{SPACE, decimal, place_line}
use Rattle.strike_records.proofs.Written.{writes_byte, writes_more, length_decimal}
use Rattle.strike_records.proofs.line.write_place.Goals as goal

pub write_pair-requires : goal.write_pair-requires
write_pair-requires c =
    let a = c.args in
    let origin = c.write_decimal-point in
    let letter = length-set a.out.now a.at 80 in
    omega (arith, origin.ensures.end_is, origin.auto.out, length_decimal a.place.origin, letter)

pub returns : goal.returns
unfolding place_line
returns c =
    let a = c.args in
    let decimals = c.write_decimal-point in
    let floats = c.write_pair in
    let three = length_decimal a.place.origin in
    let letter = writes_byte a.out.now a.at 80 (omega arith) in
    let origin = writes_more letter (SPACE ∷ decimal a.place.origin) decimals.new.out decimals.result (omega arith) decimals.ensures in
    writes_more origin _ floats.new.out floats.result (omega (arith, three)) floats.ensures
