-- `numbers` meets its contract. The loop's invariant: the first i numbers are the file's. Assumes nothing.
use mathlib.Core.Path.{sym, ◌∙◌}
use native.Mathlib.Omega.{arith}
use lib.ListN.{length-set}
use lib.Ieee.{nan}
use Rattle.origin.proofs.Filled.{filled_on, filled_all}
use Rattle.table_file.specs.TableFile.{table_in}
use Rattle.table_file.proofs.Places.{number_at, table_count}
use Rattle.table_file.proofs.numbers.Goals as goal

pub loop-i-preserved : goal.loop-i-preserved
loop-i-preserved c =
    let v = c.loop-i in
    let b = c.args.bytes.now in
    let here = number_at b v.i (omega arith) in
    let count = table_count b in (
      simp length-set v.invariant.0,
      filled_on (table_in b) v.table v.i _ nan (omega arith) (omega arith) v.invariant.1 (c.read_double.ensures ∙ sym here),
    )

pub returns : goal.returns
returns c =
    let v = c.loop-i in
    let b = c.args.bytes.now in
    let count = table_count b in
    let all = v.invariant.0 in
    filled_all (table_in b) v.table v.i (omega arith) (omega arith) v.invariant.1
