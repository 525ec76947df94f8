-- `inside::quarters` meets its contract: within a turn the count of quarter turns is at most 17/4, and the nearest whole number is made from its size and a
-- comparison with 0. Assumes nothing.
use mathlib.Core.Path.{◌≡◌, sym, ap, ◌∙◌}
use Prim.Native.Nat.{◌^◌, ◌≤◌}
use native.Mathlib.Omega.{arith}
use mathlib.Core.Bool.{true, false}
use lib.IntN.{pos, neg_ℤ}
use lib.Ieee.{Float, binary64, mul}
use lib.Ieee.Positive.{num, den}
use Rattle.arithmetic.specs.Arith.{ieee}
use Rattle.arithmetic.proofs.Rounding.{AtMost}
use Rattle.elementary.specs.Signs.{negative}
use Rattle.elementary.proofs.SignBit.{abs_positive}
use Rattle.elementary.specs.Constants.{FRAC_2_PI}
use Rattle.elementary.specs.Sine.{modulo4, whole_float}
use Rattle.elementary.specs.Whole.{round_size, roundℤ}
use Rattle.elementary.proofs.Fraction.{same_size}
use Rattle.elementary.proofs.Turn.{quarters_most, quarters_few, few_finite, size_asks, nearest_is}
use Rattle.elementary.proofs.Turn.{plus_float, minus_float, plus_quarter, minus_quarter}
use Rattle.sine.proofs.inside.quarters.Goals as goal
use Rattle.sine.proofs.inside.quarters.Goals.{After-nearest_size-k}

-- the count of quarter turns, q
count : goal.Start → Float
count c = mul binary64 c.args.y FRAC_2_PI

few : (c : goal.Start) → AtMost binary64 (count c) (negative c.args.y) quarters_most
unfolding count
few c = quarters_few c.args.y (rw c.well_formed.0.1 tt) c.requires

pub size-requires : goal.size-requires
unfolding count FRAC_2_PI
size-requires c = few_finite (count c) (negative c.args.y) (few c)

pub nearest_size-k-requires : goal.nearest_size-k-requires
unfolding count FRAC_2_PI
nearest_size-k-requires c =
    let is = c.size.ensures in
    (abs_positive (count c.before) c.size.result is, size_asks (count c.before) c.size.result (negative c.args.y) is (few c.before))

-- the size of the nearest whole number, k
module _ (c : After-nearest_size-k) where
  abbrev q : Float
  q = count c.before.before

  nearest_le : c.nearest_size-k.result ≤ 2 ^ 53
  nearest_le = omega (arith, c.nearest_size-k.ensures.1)

  nearest : round_size (num q) (den q) ≡ c.nearest_size-k.result
  unfolding count FRAC_2_PI
  nearest = sym (c.nearest_size-k.ensures.0 ∙ same_size q c.size.result c.size.ensures)

pub returns-then-q : goal.returns-then-q
unfolding count FRAC_2_PI
returns-then-q c =
    let k = c.nearest_size-k.result in
    let z : roundℤ (q c.before.before) ≡ neg_ℤ (pos k) = nearest_is (q c.before.before) true c.if-q.true ∙ ap (λ j. neg_ℤ (pos j)) (nearest c.before.before) in
    record { n_is = minus_float k (nearest_le c.before.before) ∙ ap (whole_float ieee) (sym z); quarter_is = minus_quarter k ∙ ap modulo4 (sym z) }

pub returns-else-q : goal.returns-else-q
unfolding count FRAC_2_PI
returns-else-q c =
    let k = c.nearest_size-k.result in
    let z : roundℤ (q c.before.before) ≡ pos k = nearest_is (q c.before.before) false c.if-q.false ∙ ap pos (nearest c.before.before) in
    record { n_is = plus_float k ∙ ap (whole_float ieee) (sym z); quarter_is = plus_quarter k ∙ ap modulo4 (sym z) }
