-- `save` meets its contract. Assumes nothing.
use mathlib.Core.Path.{refl, sym, ap, ◌∙◌}
use borrow.Author.Tests.{eq-eqb, ne_eqb}
use Rattle.answer.specs.Answer.{given}
use Rattle.std.proofs.Common.{rules}
use Rattle.arithmetic.specs.Arith.{ieee}
use Rattle.table_file.proofs.Outcome.{gives, no_room, not_saved, saved}
use Rattle.table_file.proofs.save.Goals as goal

pub returns-then-bytes-ne-SIZE : goal.returns-then-bytes-ne-SIZE
returns-then-bytes-ne-SIZE c =
    gives _ _ _ (no_room ieee c.args.table _ (ne_eqb _ _ c.if-bytes-ne-SIZE.true)) (record { answer = refl; left = refl })

pub returns-in_err-check_rows : goal.returns-in_err-check_rows
returns-in_err-check_rows c =
    let refused = sym c.check_rows.ensures ∙ ap given c.in_err-check_rows.was in
    gives _ _ _ (not_saved ieee c.args.table _ _ (eq-eqb _ _ c.if-bytes-ne-SIZE.false) refused) (record { answer = search rules; left = refl })

pub returns : goal.returns
returns c =
    let passed = sym c.check_rows.ensures ∙ ap given c.in_ok-check_rows.was in
    gives _ _ _ (saved ieee c.args.table _ (eq-eqb _ _ c.if-bytes-ne-SIZE.false) passed) (record { answer = refl; left = c.write.ensures })
