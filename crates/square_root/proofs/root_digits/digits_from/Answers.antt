-- `root_digits::digits_from` meets its contract. The loop's invariant is `Found`, and its measure is the weight of the next digit. Assumes nothing.
use Rattle.std.proofs.Common.{ℕ, ◌*◌, ◌^◌, ◌<◌, arith}
use Rattle.square_root.specs.Digits.{Marked}
use Rattle.square_root.proofs.Round.{t_lt, y_lt, marked, next}
use Rattle.square_root.proofs.root_digits.digits_from.Goals as goal
use Rattle.square_root.proofs.root_digits.digits_from.Goals.{At-loop-y}

-- what bounds the words where the loop's test is reached
module _ (at : At-loop-y) where
  abbrev n : ℕ
  n = at.args.m * 2 ^ 52

  small : n < 2 ^ 106
  small = omega (arith, at.requires.0)

  t_small : at.loop-y.t < 2 ^ 56
  t_small = t_lt n at.loop-y.t at.loop-y.y at.loop-y.r at.loop-y.rounds at.loop-y.invariant small

  y_small : at.loop-y.y < 2 ^ 57
  y_small = y_lt n at.loop-y.t at.loop-y.y at.loop-y.r at.loop-y.rounds at.loop-y.invariant small

-- what a round's tests say
module _ (turn : goal.Then-r-gt0) where
  abbrev at : At-loop-y
  at = turn.before.before

  some_left : 0 < at.loop-y.y
  some_left = turn.loop-y-test.true

  digit_left : 0 < at.loop-y.r
  digit_left = omega arith

  last_digits : Marked at.loop-y.t at.loop-y.r
  last_digits = let l = at.loop-y in marked (n at) l.t l.y l.r l.rounds l.invariant digit_left some_left

-- where a round began
abbrev turn : goal.After-following-t → goal.Then-r-gt0
turn c = c.before.before

pub rest-left-requires : goal.rest-left-requires
rest-left-requires c = omega (arith, t_small (at c), y_small (at c))

pub following-t-requires : goal.following-t-requires
following-t-requires c = (omega (arith, t_small (at c.before)), last_digits c.before)

pub loop-y-preserved : goal.loop-y-preserved
loop-y-preserved c =
    let l = (at (turn c)).loop-y in
    let found = next (n (at (turn c))) l.t l.y l.r l.rounds l.invariant (digit_left (turn c)) (some_left (turn c)) in
    found c.following-t.result c.rest-left.result c.following-t.ensures c.rest-left.ensures
