-- `haversines_in` meets its contract. The loop's invariant: the first k distances are the first k haversines. Assumes nothing.
use mathlib.Core.Path.{sym, ◌∙◌}
use native.Mathlib.Omega.{arith}
use lib.ListN.{length-set}
use lib.Ieee.{nan}
use Rattle.arithmetic.specs.Arith.{ieee}
use Rattle.origin.specs.Origins.{origin_at}
use Rattle.nearest.specs.Nearest.{haversines}
use Rattle.nearest.proofs.Axes.{haversine_at, haversine_count}
use Rattle.origin.proofs.Filled.{filled_on, filled_all}
use Rattle.origin.proofs.Sizes.{sound_small, small_axis}
use Rattle.nearest.proofs.haversines_in.Goals as goal

pub haversine_by-requires : goal.haversine_by-requires
haversine_by-requires c =
    let k = c.loop-k.k in
    let o = sound_small c.args.table.rows.now c.args.table.sound k (omega arith) in
    record {
      point = c.requires;
      axis = rw c.origin_in.ensures (small_axis (origin_at c.args.table.rows.now k) o);
      sine_value = c.sin_inside-sine.ensures;
    }

pub loop-k-preserved : goal.loop-k-preserved
loop-k-preserved c =
    let v = c.loop-k in
    let a = c.args in
    let p = a.point in
    let hs = haversines ieee a.table.rows.now p in
    let count = haversine_count ieee a.table.rows.now p in
    let here = haversine_at ieee a.table.rows.now p v.k (omega arith) in
    let d = rw c.origin_in.ensures at c.haversine_by.ensures in
    (simp length-set v.invariant.0, rw c.from.ensures (filled_on hs v.distances v.k _ nan (omega arith) (omega arith) v.invariant.1 (d ∙ sym here)))

pub returns : goal.returns
returns c =
    let v = c.loop-k in
    let a = c.args in
    let count = haversine_count ieee a.table.rows.now a.point in
    filled_all (haversines ieee a.table.rows.now a.point) v.distances v.k (omega arith) (omega arith) v.invariant.1
