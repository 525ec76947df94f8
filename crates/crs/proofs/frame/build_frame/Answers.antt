-- `frame::build_frame` meets its contract. The loop's invariant: the candidates that are left, added to the rows so far, give the frame, and
-- nothing behind the rows has changed. Assumes nothing.
use mathlib.Core.Path.{◌≡◌, refl, sym, ◌∙◌}
use Prim.Native.Nat.{◌-◌, zero-le}
use native.Mathlib.Omega.{arith}
use lib.ListN.{take}
use Rattle.arithmetic.specs.Arith.{ieee}
use Rattle.crs.specs.Frame.{add_rows, frame_rows}
use Rattle.crs.proofs.Stores.{drop_later, joined, front_length}
use Rattle.crs.proofs.Rows.{next_candidate}
use Rattle.crs.proofs.frame.build_frame.Goals as goal

pub loop-k-init : goal.loop-k-init
unfolding frame_rows
loop-k-init c = (zero-le, zero-le, refl, refl)

pub loop-k-preserved : goal.loop-k-preserved
loop-k-preserved c =
    let v = c.loop-k in
    let a = c.args in
    let start = a.rows.now in
    let e = rw c.candidate.ensures at c.add-used.ensures.rows in (
      omega arith,
      omega (arith, c.add-used.auto.rows),
      rw e (sym (next_candidate ieee a.table.rows.now 132 v.k (take v.used v.rows) (omega arith)) ∙ v.invariant.2),
      c.add-used.ensures.behind ∙ drop_later v.rows start v.used c.add-used.result c.add-used.ensures.used.0 v.invariant.3,
    )

pub returns : goal.returns
unfolding add_rows
returns c =
    let v = c.loop-k in
    let none : 132 - v.k ≡ 0 = omega arith in
    let e = rw none at v.invariant.2 in
    record { used = front_length v.rows _ v.used (omega arith) e; rows = joined v.rows c.args.rows.now _ v.used e v.invariant.3 }
