-- `sheet::write_page` meets its contract. The loop's invariant: the lines up to `place` stand, and what follows them is as it was.
-- Assumes nothing.
use mathlib.Core.List.{flatten}
use mathlib.Core.Path.{refl, ap, ◌∙◌}
use Prim.Native.Nat.{◌+◌, ◌*◌, ◌-◌}
use native.Mathlib.Numerals.{add-one}
use native.Mathlib.Omega.{arith}
use lib.ListN.{length}
use Rattle.sheet.proofs.Lines.{up_to_long, one_line_more, all_lines_stand}
use Rattle.sheet.proofs.write_page.Goals as goal

pub loop-place-init : goal.loop-place-init
unfolding flatten
loop-place-init c = (c.requires, refl)

pub loop-place-preserved : goal.loop-place-preserved
loop-place-preserved c =
    let l = c.loop-place in
    let counts = c.args.counts.now in
    let page = c.args.page.now in
    let p = l.place in
    let more = one_line_more counts page l.page _ p (p * 81 + 81 - p * 81) (p + 1)
    (omega arith) (omega arith) (add-one p) l.invariant.1 c.write_line.ensures in
    (ap length more ∙ up_to_long counts page (p + 1) (omega arith) c.requires, more)

pub returns : goal.returns
returns c =
    let l = c.loop-place in
    all_lines_stand c.args.counts.now c.args.page.now l.page l.place (omega arith) c.requires l.invariant.1
