-- `line::write_hex` meets its contract. The loop's invariant: the first i digits of what is left of the number, with the digits that
-- stand behind them, are all sixteen. Assumes nothing.
use mathlib.Core.Path.{◌≡◌}
use mathlib.Core.List.{◌++◌}
use lib.ListN.{length, drop}
use Rattle.strike_records.specs.Line.{hex}
use Rattle.strike_records.proofs.line.write_hex.Given as goal

abbrev pub invariant-loop-i : goal.invariant-loop-i
invariant-loop-i l = (length l.run ≡ 16) × (hex l.i l.rest ++ drop l.i l.run ≡ hex 16 l.bits)
