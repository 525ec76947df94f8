-- `short_of` meets its contract: the library's sum is the definition's, and no more than a channel each. Assumes nothing.
use Rattle.std.proofs.Common.{◌≡◌, ◌≤◌, ℕ, arith, rules, sym, ◌∙◌}
use Rattle.std.specs.List.{sum_by}
use Rattle.turns.specs.Turns.{CHANNELS, still_short}
use Rattle.turns.proofs.Rounds.{short_most}
use Rattle.turns.proofs.Sums.{sum_by_is}
use Rattle.fair_turns.proofs.short_of.Goals as goal

pub sum-requires-clause-fits : goal.sum-requires-clause-fits
sum-requires-clause-fits c =
    let wishes = c.args.wishes.now in
    let same = sum_by_is (λ (wish : ℕ). still_short wish c.args.level) wishes in
    let fits : sum_by (λ (wish : ℕ). still_short wish c.args.level) wishes ≤ CHANNELS = omega (arith, short_most c.args.level wishes) in
    search rules

pub returns : goal.returns
returns c =
    let added : c.sum.result ≡ sum_by (λ (wish : ℕ). still_short wish c.args.level) c.args.wishes.now = search rules in
    added ∙ sym (sum_by_is (λ (wish : ℕ). still_short wish c.args.level) c.args.wishes.now)
