-- `line::write_refusal` meets its contract. Assumes nothing.
use mathlib.Core.Path.{refl}
use mathlib.Core.List.{◌∷◌}
use Prim.Native.Nat.{◌+◌}
use native.Mathlib.Omega.{arith}
use lib.ListN.{length-set}
use Rattle.strike_records.specs.Line.{SPACE, NEWLINE, decimal, refusal_line}
use Rattle.strike_records.proofs.Written.{writes_byte, writes_more, writes_store, length_decimal}
use Rattle.strike_records.proofs.line.write_refusal.Goals as goal

pub bounds-out-end : goal.bounds-out-end
bounds-out-end c =
    let a = c.args in
    let decimals = c.write_decimal-end in
    omega (arith, decimals.ensures.end_is, decimals.auto.out, length_decimal a.number, length-set a.out.now a.at 82)

pub overflow_add-result : goal.overflow_add-result
overflow_add-result c =
    let a = c.args in
    omega (arith, bounds-out-end c, c.write_decimal-end.auto.out, length-set a.out.now a.at 82)

pub returns : goal.returns
unfolding refusal_line
returns c =
    let a = c.args in
    let decimals = c.write_decimal-end in
    let three = length_decimal a.number in
    let letter = writes_byte a.out.now a.at 82 (omega arith) in
    let number = writes_more letter (SPACE ∷ decimal a.number) decimals.new.out decimals.result (omega arith) decimals.ensures in
    writes_store number NEWLINE (decimals.result + 1) (omega (arith, three)) refl
