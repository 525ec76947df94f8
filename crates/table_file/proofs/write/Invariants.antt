-- `write` meets its contract. The loop's invariant: the header and the first i doubles are written. Assumes nothing.
use mathlib.Core.Path.{◌≡◌}
use mathlib.Core.List.{◌++◌}
use Prim.Native.Nat.{◌+◌, ◌*◌}
use lib.ListN.{length, take}
use Rattle.table_file.specs.TableFile.{HEADER, bytes_of_all}
use Rattle.table_file.proofs.write.Given as goal

abbrev pub invariant-loop-i : goal.invariant-loop-i
invariant-loop-i l = (length l.bytes ≡ 677) × (take (5 + 8 * l.i) l.bytes ≡ HEADER ++ bytes_of_all (take l.i l.table))
