-- `write` meets its contract. The loop's invariant: the header and the first i doubles are written. Assumes nothing.
use mathlib.Core.Path.{refl, sym, ap, ◌∙◌}
use mathlib.Core.List.{List, ◌++◌}
use Prim.Native.Nat.{◌+◌, ◌*◌}
use native.Mathlib.Omega.{arith}
use lib.ListN.{take, drop, length-drop}
use lib.Seq.{take_all, take_at}
use lib.Ieee.{Float}
use Rattle.table_file.specs.TableFile.{HEADER, bytes_of_all, file_of}
use Rattle.table_file.proofs.Places.{written_on}
use Rattle.table_file.proofs.write.Goals as goal

pub loop-i-init : goal.loop-i-init
unfolding bytes_of_all
loop-i-init c =
    let header = c.copy_from_slice.ensures.after in
    (rw header (simp length-drop (omega arith)), rw header (take_at HEADER (drop 5 c.args.bytes.now) 5 refl))

pub loop-i-preserved : goal.loop-i-preserved
loop-i-preserved c =
    let v = c.loop-i in
    let table = c.args.table.now in
    let at = 5 + 8 * v.i in
    let on = written_on table v.bytes (drop (at + 8) v.bytes) v.i at (omega arith) refl (omega arith) v.invariant.1 in
    (c.write_double.auto.bytes ∙ v.invariant.0, ap (take (5 + 8 * (v.i + 1))) c.write_double.ensures ∙ on)

pub returns : goal.returns
unfolding file_of
returns c =
    let v = c.loop-i in
    let all = take_all v.i c.args.table.now (omega arith) in
    sym (take_all (5 + 8 * v.i) v.bytes (omega arith)) ∙ v.invariant.1 ∙ ap (λ (t : List Float). HEADER ++ bytes_of_all t) all
