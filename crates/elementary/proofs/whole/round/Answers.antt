-- `whole::round` meets its contract: a value with no fraction is its own, and any other's is made from the nearest size and its sign. Assumes nothing.
use Rattle.std.proofs.Common.{◌≡◌, ◌*◌, ◌^◌, ◌≤◌, true, false, not, ap, ◌∙◌, arith}
use lib.Ieee.{Float, binary64, of_int, of_bits}
use lib.Ieee.Positive.{num, den, den_pos}
use Rattle.arithmetic.proofs.Rounding.{neg_round}
use Rattle.elementary.specs.Whole.{round_size}
use Rattle.elementary.proofs.SignBit.{abs_positive}
use Rattle.elementary.proofs.Fraction.{Below, below, same_size, Fraction, large_whole, equal, unequal, sign_is, round_back, round_whole, round_part}
use Rattle.elementary.proofs.whole.round.Goals as goal
use Rattle.elementary.proofs.whole.round.Goals.{After-nearest_size-y, Else-y-a}

pub returns-then-not-a : goal.returns-then-not-a
unfolding of_bits
returns-then-not-a c =
    let x = c.args.x in
    round_whole x (large_whole x c.abs-a.result (rw c.well_formed.0.1 tt) c.abs-a.ensures (ap not c.if-not-a.true))

small : (c : goal.Else-not-a) → Below c.args.x c.abs-a.result
unfolding of_bits
small c = below c.args.x c.abs-a.result c.abs-a.ensures (ap not c.if-not-a.false)

pub nearest_size-y-requires : goal.nearest_size-y-requires
unfolding of_bits
nearest_size-y-requires c =
    let a = c.abs-a in
    (abs_positive c.args.x a.result a.ensures, c.if-not-a.false)

nearest : (c : After-nearest_size-y) → let x = c.args.x in c.nearest_size-y.result ≡ round_size (num x) (den x)
nearest c =
    let a = c.abs-a in
    c.nearest_size-y.ensures.0 ∙ same_size c.args.x a.result a.ensures

nearest_le : (c : After-nearest_size-y) → c.nearest_size-y.result ≤ 2 ^ 53
nearest_le c = omega (arith, c.nearest_size-y.ensures.1)

pub returns-then-y-a : goal.returns-then-y-a
returns-then-y-a c =
    let x = c.args.x in
    round_whole x (equal x c.abs-a.result c.nearest_size-y.result (small c.before.before.before) (nearest_le c.before.before) c.if-y-a.true)

-- x, from where y is known
abbrev given : Else-y-a → Float
given c = c.args.x

fraction : (c : Else-y-a) → Fraction (given c)
fraction c =
    let x = c.args.x in
    unequal x c.abs-a.result c.nearest_size-y.result (small c.before.before.before) (nearest_le c.before.before) c.if-y-a.false
    (λ z. ap (λ k. k * den x) (nearest c.before.before) ∙ round_back (num x) (den x) (den_pos x) z)

pub returns-then-x : goal.returns-then-x
unfolding of_int
returns-then-x c =
    let x = c.args.x in
    let k = c.nearest_size-y.result in
    neg_round binary64 false k 1 ∙ round_part x true k (fraction c.before) (sign_is x true (fraction c.before) c.if-x.true) (nearest c.before.before.before)

pub returns-else-x : goal.returns-else-x
unfolding of_int
returns-else-x c =
    let x = c.args.x in
    round_part x false c.nearest_size-y.result (fraction c.before) (sign_is x false (fraction c.before) c.if-x.false) (nearest c.before.before.before)
