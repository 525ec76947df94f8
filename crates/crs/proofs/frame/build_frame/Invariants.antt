-- `frame::build_frame` meets its contract. The loop's invariant: the candidates that are left, added to the rows so far, give the frame, and
-- nothing behind the rows has changed. Assumes nothing.
use mathlib.Core.Path.{◌≡◌}
use Prim.Native.Nat.{◌-◌, ◌*◌, ◌≤◌}
use lib.ListN.{length, take, drop}
use Rattle.arithmetic.specs.Arith.{ieee}
use Rattle.crs.specs.Frame.{add_rows, frame_rows}
use Rattle.crs.proofs.frame.build_frame.Given as goal

abbrev pub invariant-loop-k : goal.invariant-loop-k
invariant-loop-k l = (l.used ≤ 3 * l.k)
    × (l.used ≤ length l.rows)
    × (add_rows ieee l.table.rows.now (132 - l.k) l.k (take l.used l.rows) ≡ frame_rows ieee l.table.rows.now)
    × (drop l.used l.rows ≡ drop l.used l.initial.rows)
