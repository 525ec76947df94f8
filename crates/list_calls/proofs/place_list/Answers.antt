-- `place_list` meets its contract. Of `check_list` and `place_one` only the contracts are known. Assumes nothing.
use Rattle.std.proofs.Common.{sym, ap, ◌∙◌, arith}
use Rattle.answer.specs.Given.{Given}
use Rattle.answer.specs.Answer.{given}
use Rattle.answer.proofs.Given.{handed_on}
use Rattle.arithmetic.specs.Arith.{ieee}
use Rattle.set.specs.Lent.{held}
use Rattle.place_list.specs.Lists.{called}
use Rattle.place_list.proofs.Laws.{refused_list}
use Rattle.list_calls.proofs.Loop.{list_passed, long, turned_end}
use Rattle.list_calls.proofs.place_list.Goals as goal

pub returns-in_err-check_list-clause-listed : goal.returns-in_err-check_list-clause-listed
returns-in_err-check_list-clause-listed g c =
    let check = sym (rw c.view.ensures at c.check_list.ensures) ∙ ap given c.in_err-check_list.was in
    ap (λ (r : Given (Unit {0})). called r c.args.results.now (held c.args.set.now)) (handed_on _ _ c.from_residual.ensures)
    ∙ sym (refused_list ieee _ _ _ _ _ check)

pub bounds-results-i : goal.bounds-results-i
bounds-results-i g c =
    let table = g.O.Origins.table c.args.origins in
    let entry = held c.args.set.now in
    let check = sym (rw c.view.ensures at c.check_list.ensures) ∙ ap given c.in_ok-check_list.was in
    let as_many = (list_passed ieee table entry _ _ check).1 in
    omega (arith, as_many, long ieee table entry c.args.positions.now c.args.results.now c.loop-i.i c.loop-i.invariant.1)

pub returns-clause-listed : goal.returns-clause-listed
returns-clause-listed g c =
    let check = sym (rw c.view.ensures at c.check_list.ensures) ∙ ap given c.in_ok-check_list.was in
    turned_end ieee _ _ _ _ c.loop-i.i c.loop-i.invariant.1 check (omega arith)
