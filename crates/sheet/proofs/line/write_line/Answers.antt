-- `line::write_line` meets its contract, by the five kinds of lines. Assumes nothing.
use mathlib.Core.Path.{◌≡◌, sym, ap, ◌∙◌}
use mathlib.Core.List.{List, []}
use Prim.Native.Nat.{ℕ, ◌+◌, ◌-◌}
use native.Mathlib.Omega.{arith}
use lib.ListN.{get_or}
use Rattle.decimal.specs.Decimal.{decimal}
use Rattle.sheet.specs.Page.{ALL, right_aligned, numbered, lines_of}
use Rattle.sheet.proofs.Lines.{row_at, blank_at}
use Rattle.sheet.proofs.line.write_line.Goals.{in_default-via-then-place-lt2, in_default-via-else-place-lt2+else-place-lt14}
use Rattle.sheet.proofs.line.write_line.Goals as goal

-- a line at the place that a test found
placed : (counts l : List ℕ) (p q : ℕ) → p ≡ q → l ≡ get_or (lines_of counts) q [] → l ≡ get_or (lines_of counts) p []
placed counts l p q s e = rw s e

pub returns-in-0 : goal.returns-in-0
unfolding lines_of
returns-in-0 c = placed c.args.counts.now _ c.args.place 0 c.in-0.is c.write_title.ensures

pub returns-in-2-to-13 : goal.returns-in-2-to-13
returns-in-2-to-13 c =
    let a = c.args in
    let k = a.place - 2 in
    placed a.counts.now _ a.place (2 + k) (omega arith)
    (c.write_row.ensures ∙ ap (numbered (right_aligned 2 (decimal k))) c.from.ensures ∙ sym (row_at a.counts.now k (omega arith)))

pub returns-in-14 : goal.returns-in-14
unfolding lines_of
returns-in-14 c = placed c.args.counts.now _ c.args.place 14 c.in-14.is (c.write_all.ensures ∙ ap (numbered ALL) c.total.ensures)

pub returns-in_default : goal.returns-in_default
unfolding lines_of
returns-in_default c =
    let a = c.args in
    let j = a.place - 15 in
    elim c.in_default.branch [
      | in_default-via-then-place-lt2 w ↦ placed a.counts.now _ a.place 1 (omega arith) c.write_blank.ensures
      | in_default-via-else-place-lt2+else-place-lt14 w ↦
          placed a.counts.now _ a.place (15 + j) (omega arith) (c.write_blank.ensures ∙ sym (blank_at a.counts.now j (omega arith)))
    ]
