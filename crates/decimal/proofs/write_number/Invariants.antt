-- `write_number` meets its contract. The loop's invariant: the columns of what is left of the number, with those that stand behind them, are all
-- of its columns. Assumes nothing.
use mathlib.Core.Path.{◌≡◌}
use mathlib.Core.List.{◌++◌}
use Prim.Native.Nat.{◌≤◌}
use lib.ListN.{length, drop}
use Rattle.decimal.specs.Decimal.{decimal}
use Rattle.decimal.specs.Columns.{right_aligned}
use Rattle.decimal.proofs.Columns.{columns_of}
use Rattle.decimal.proofs.write_number.Given as goal

abbrev pub invariant-loop-at : goal.invariant-loop-at
invariant-loop-at l = (l.at ≤ length l.initial.columns) × (length l.columns ≡ length l.initial.columns) ×
    (columns_of l.at l.rest ++ drop l.at l.columns ≡ right_aligned (length l.initial.columns) (decimal l.n))
