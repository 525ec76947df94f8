-- `load` meets its contract. Assumes nothing.
use mathlib.Core.Path.{refl, sym, ap, ◌∙◌}
use Rattle.answer.specs.Answer.{given}
use Rattle.std.proofs.Common.{rules}
use Rattle.arithmetic.specs.Arith.{ieee}
use Rattle.origin.specs.Table.{check_table}
use Rattle.table_file.proofs.Outcome.{headed_size, gives, no_header, no_table, loaded}
use Rattle.table_file.proofs.load.Goals as goal

pub returns-then-not-is_headed : goal.returns-then-not-is_headed
returns-then-not-is_headed c =
    let b = c.args.bytes.now in
    let none = sym c.is_headed.ensures ∙ c.if-not-is_headed.true in
    gives _ _ _ (no_header ieee b none) (record { answer = refl; left = refl })

pub numbers-read-requires : goal.numbers-read-requires
numbers-read-requires c =
    headed_size c.args.bytes.now (sym c.is_headed.ensures ∙ c.if-not-is_headed.false)

pub returns-in_err-check_rows : goal.returns-in_err-check_rows
returns-in_err-check_rows c =
    let b = c.args.bytes.now in
    let here = sym c.is_headed.ensures ∙ c.if-not-is_headed.false in
    let refused =
    ap (check_table ieee) (sym c.numbers-read.ensures) ∙ sym c.check_rows.ensures ∙ ap given c.in_err-check_rows.was in
    gives _ _ _ (no_table ieee b _ here refused) (record { answer = search rules; left = refl })

pub returns : goal.returns
returns c =
    let b = c.args.bytes.now in
    let here = sym c.is_headed.ensures ∙ c.if-not-is_headed.false in
    let passed = ap (check_table ieee) (sym c.numbers-read.ensures) ∙ sym c.check_rows.ensures ∙ ap given c.in_ok-check_rows.was in
    gives _ _ _ (loaded ieee b here passed) (record { answer = refl; left = c.numbers-read.ensures })
