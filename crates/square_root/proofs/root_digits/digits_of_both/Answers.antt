-- `root_digits::digits_of_both` meets its contract. The loop's invariant is `Found` of each root, at one weight and one count of rounds; its measure is
-- the weight of the next digit. Assumes nothing.
use Rattle.std.proofs.Common.{ℕ, ◌*◌, ◌^◌, ◌<◌, arith}
use lib.Bits.{bit_and, and_le_l, and_le_r}
use Rattle.square_root.specs.Digits.{Marked}
use Rattle.square_root.proofs.Round.{t_lt, y_lt, marked, next}
use Rattle.square_root.proofs.root_digits.digits_of_both.Goals as goal
use Rattle.square_root.proofs.root_digits.digits_of_both.Goals.{At-loop-r}

-- what bounds the words where the loop's test is reached
module _ (at : At-loop-r) where
  abbrev first : ℕ
  first = at.args.m * 2 ^ 52

  abbrev second : ℕ
  second = at.args.n * 2 ^ 52

  first_small : first < 2 ^ 106
  first_small = omega (arith, at.requires.1)

  second_small : second < 2 ^ 106
  second_small = omega (arith, at.requires.3)

  t_small : at.loop-r.t < 2 ^ 56
  t_small = let l = at.loop-r in t_lt first l.t l.y l.r l.rounds l.invariant.0 first_small

  y_small : at.loop-r.y < 2 ^ 57
  y_small = let l = at.loop-r in y_lt first l.t l.y l.r l.rounds l.invariant.0 first_small

  u_small : at.loop-r.u < 2 ^ 56
  u_small = let l = at.loop-r in t_lt second l.u l.z l.r l.rounds l.invariant.1 second_small

  z_small : at.loop-r.z < 2 ^ 57
  z_small = let l = at.loop-r in y_lt second l.u l.z l.r l.rounds l.invariant.1 second_small

-- what a round's tests say
module _ (turn : goal.Then-y-z-gt0) where
  abbrev at : At-loop-r
  at = turn.before.before

  digit_left : 0 < at.loop-r.r
  digit_left = turn.loop-r-test.true

  in_common : 0 < bit_and at.loop-r.y at.loop-r.z
  in_common = omega arith

  y_left : 0 < at.loop-r.y
  y_left = omega (arith, in_common, and_le_l at.loop-r.y at.loop-r.z)

  z_left : 0 < at.loop-r.z
  z_left = omega (arith, in_common, and_le_r at.loop-r.y at.loop-r.z)

  t_digits : Marked at.loop-r.t at.loop-r.r
  t_digits = let l = at.loop-r in marked (first at) l.t l.y l.r l.rounds l.invariant.0 digit_left y_left

  u_digits : Marked at.loop-r.u at.loop-r.r
  u_digits = let l = at.loop-r in marked (second at) l.u l.z l.r l.rounds l.invariant.1 digit_left z_left

pub rest-left-requires : goal.rest-left-requires
rest-left-requires c = omega (arith, t_small (at c), y_small (at c))

pub following-t-requires : goal.following-t-requires
following-t-requires c = (omega (arith, t_small (at c.before)), t_digits c.before)

pub rest-left-requires-in-loop-r : goal.rest-left-requires-in-loop-r
rest-left-requires-in-loop-r c = omega (arith, u_small (at c.before.before), z_small (at c.before.before))

pub following-u-requires : goal.following-u-requires
following-u-requires c = (omega (arith, u_small (at c.before.before.before)), u_digits c.before.before.before)

-- the first root's words in a round, and where the round began
abbrev one : goal.After-following-u → goal.After-following-t
one c = c.before.before

abbrev turn : goal.After-following-u → goal.Then-y-z-gt0
turn c = (one c).before.before

pub loop-r-preserved : goal.loop-r-preserved
loop-r-preserved c =
    let l = (at (turn c)).loop-r in
    let rest = (one c).rest-left in
    let following = (one c).following-t in
    let rest2 = c.rest-left-in-loop-r in
    let following2 = c.following-u in
    let found = next (first (at (turn c))) l.t l.y l.r l.rounds l.invariant.0 (digit_left (turn c)) (y_left (turn c)) in
    let also-found = next (second (at (turn c))) l.u l.z l.r l.rounds l.invariant.1 (digit_left (turn c)) (z_left (turn c)) in (
      found following.result rest.result following.ensures rest.ensures,
      also-found following2.result rest2.result following2.ensures rest2.ensures,
    )
