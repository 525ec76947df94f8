-- `tables::a5_open_with` meets its contract: open's with the table. Assumes nothing.
use mathlib.Core.Path.{sym, ap, ◌∙◌}
use Rattle.answer.specs.Answer.{given}
use Rattle.answer.specs.Given.{status}
use Rattle.arithmetic.specs.Arith.{ieee}
use Rattle.set.specs.Outcome.{Outcome}
use Rattle.set.specs.Open.{open_on}
use Rattle.border.proofs.Tables.{with_rows_on}
use Rattle.exports.proofs.tables.a5_open_with.Goals as goal

pub returns-clause-left : goal.returns-clause-left
returns-clause-left c =
    let rows = ap given (sym c.in-Ok.is) ∙ c.rows_or_20.ensures in
    c.open-opened.ensures.left ∙ sym (ap (λ (o : Outcome (Unit {0})). o.set) (with_rows_on (open_on ieee) _ _ _ rows))

pub returns-clause-answer : goal.returns-clause-answer
returns-clause-answer c =
    let rows = ap given (sym c.in-Ok.is) ∙ c.rows_or_20.ensures in
    let opened = c.open-opened.ensures.answer ∙ sym (ap (λ (o : Outcome (Unit {0})). o.answer) (with_rows_on (open_on ieee) _ _ _ rows)) in
    c.status.ensures ∙ ap status opened
