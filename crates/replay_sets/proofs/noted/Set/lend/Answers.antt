-- `Set::lend` meets its contract: each buffer is lent by its own length. Assumes nothing.
use Rattle.std.proofs.Common.{◌≡◌, ℕ, ◌-◌, take, slice_index, ap, ◌∙◌, arith}
use Rattle.replay_sets.proofs.noted.Set.lend.Goals as goal

pub returns-clause-sphere : goal.returns-clause-sphere
returns-clause-sphere c =
    let n = slice_index c.args.lengths 2 in
    let lent : c.in_ok-get_mut-3.field-0.now ≡ take (n - 0) c.args.self.now.sphere = c.in_ok-get_mut-3.ensures.lookup.0.2 in
    let from_the_first : n - 0 ≡ n = omega arith in
    lent ∙ ap (λ (k : ℕ). take k c.args.self.now.sphere) from_the_first
