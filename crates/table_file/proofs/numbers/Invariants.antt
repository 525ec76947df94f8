-- `numbers` meets its contract. The loop's invariant: the first i numbers are the file's. Assumes nothing.
use mathlib.Core.Path.{◌≡◌}
use lib.ListN.{length, take}
use Rattle.table_file.specs.TableFile.{table_in}
use Rattle.table_file.proofs.numbers.Given as goal

abbrev pub invariant-loop-i : goal.invariant-loop-i
invariant-loop-i l = (length l.table ≡ 84) × (take l.i l.table ≡ take l.i (table_in l.bytes))
