-- `handed_out` meets its contract: the library's sum is the definition's. Assumes nothing.
use Rattle.std.proofs.Common.{◌≡◌, ◌≤◌, ℕ, min, rules, sym, ◌∙◌}
use Rattle.std.specs.List.{sum_by}
use Rattle.turns.specs.Turns.{CALLS}
use Rattle.turns.proofs.Sums.{sum_by_is}
use Rattle.fair_turns.proofs.handed_out.Goals as goal

pub sum-requires-clause-fits : goal.sum-requires-clause-fits
sum-requires-clause-fits c =
    let wishes = c.args.wishes.now in
    let fits : sum_by (λ (wish : ℕ). min wish c.args.level) wishes ≤ CALLS = rw (← sum_by_is (λ (wish : ℕ). min wish c.args.level) wishes) c.requires in
    search rules

pub returns : goal.returns
returns c =
    let added : c.sum.result ≡ sum_by (λ (wish : ℕ). min wish c.args.level) c.args.wishes.now = search rules in
    added ∙ sym (sum_by_is (λ (wish : ℕ). min wish c.args.level) c.args.wishes.now)
