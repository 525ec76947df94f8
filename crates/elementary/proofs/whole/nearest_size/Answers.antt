-- `whole::nearest_size` meets its contract: the whole part of a + a, which is exact, counts the halves of a. Assumes nothing.
use Rattle.std.proofs.Common.{◌≡◌, ◌+◌, ◌/◌, ap, ◌∙◌, arith}
use lib.Ieee.Positive.{num, den, den_pos}
use Rattle.elementary.specs.Whole.{round_size}
use Rattle.elementary.proofs.Fraction.{Counted, counted, halves, round_size_le}
use Rattle.elementary.proofs.whole.nearest_size.Goals as goal

known : (c : goal.Start) → Counted c.args.a
known c = counted c.args.a (rw c.well_formed.0.1 tt) c.requires.0 c.requires.1

pub truncating_f64_to_u64-requires : goal.truncating_f64_to_u64-requires
truncating_f64_to_u64-requires c = record { lower_bound = (known c).cut.asks.0; upper_bound = (known c).cut.asks.1 }

answer : (c : goal.After-truncating_f64_to_u64) → (c.truncating_f64_to_u64.result + 1) / 2 ≡ round_size (num c.args.a) (den c.args.a)
answer c =
    let a = c.args.a in
    ap (λ t. (t + 1) / 2) (c.truncating_f64_to_u64.ensures ∙ (known c.before).cut.is) ∙ halves (num a) (den a) (den_pos a)

pub returns : goal.returns
returns c =
    let a = c.args.a in
    (answer c, rw (answer c) (round_size_le (num a) (den a) (den_pos a) (known c.before).small))

pub overflow_add-result : goal.overflow_add-result
overflow_add-result c = omega (arith, (returns c).1)
