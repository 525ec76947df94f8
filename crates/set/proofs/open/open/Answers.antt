-- `open::open` meets its contract. Assumes nothing.
use mathlib.Core.Path.{sym, ap, ◌∙◌}
use Rattle.answer.specs.Answer.{given}
use Rattle.answer.proofs.Given.{handed_on}
use Rattle.arithmetic.specs.Arith.{ieee}
use Rattle.set.proofs.Opening.{open_refused}
use Rattle.set.proofs.open.open.Goals as goal

pub returns-in_err-check_with : goal.returns-in_err-check_with
returns-in_err-check_with g c =
    let refused = open_refused ieee _ _ _ (sym c.check_with.ensures ∙ ap given c.in_err-check_with.was) in
    record { answer = handed_on _ _ c.from_residual.ensures ∙ sym refused; left = rw refused }

pub open_checked-requires : goal.open_checked-requires
open_checked-requires g c = rw c.rows.ensures (sym c.check_with.ensures ∙ ap given c.in_ok-check_with.was)
