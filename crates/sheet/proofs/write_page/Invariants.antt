-- `sheet::write_page` meets its contract. The loop's invariant: the lines up to `place` stand, and what follows them is as it was.
-- Assumes nothing.
use mathlib.Core.Path.{◌≡◌}
use lib.ListN.{length}
use Rattle.sheet.proofs.Lines.{up_to}
use Rattle.sheet.proofs.write_page.Given as goal

abbrev pub invariant-loop-place : goal.invariant-loop-place
invariant-loop-place l = (length l.page ≡ 4860) × (l.page ≡ up_to l.counts l.initial.page l.place)
