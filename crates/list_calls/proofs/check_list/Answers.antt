-- `check_list` meets its contract, where the set passed. Assumes nothing.
use mathlib.Core.Path.{sym, ap, ◌∙◌}
use Rattle.answer.specs.Answer.{given}
use Rattle.answer.proofs.Given.{then_passed}
use Rattle.place_list.specs.Lists.{check_list, check_counts}
use Rattle.list_calls.proofs.check_list.Goals as goal

pub returns : goal.returns
unfolding check_list
returns g c =
    let set = sym c.check_with.ensures ∙ ap given c.in_ok-check_with.was in
    c.check_counts.ensures ∙ sym (then_passed _ (check_counts c.args.positions c.args.results) set)
