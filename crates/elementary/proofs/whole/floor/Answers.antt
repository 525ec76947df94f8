-- `whole::floor` meets its contract: a value with no fraction is its own, and any other's is made from its whole part and its sign. Assumes nothing.
use Rattle.std.proofs.Common.{ℕ, ◌≡◌, suc, ◌+◌, ◌*◌, ◌/◌, ◌^◌, ◌<◌, ◌≤◌, true, false, not, sym, ap, ◌∙◌, add-one, arith, le→leb}
use lib.IntN.{pos}
use lib.Ieee.{Float, binary64, of_int, of_bits, to_unsigned, eq, in_float}
use lib.Ieee.Positive.{num, den, den_pos}
use Rattle.arithmetic.proofs.Rounding.{neg_round}
use Rattle.elementary.specs.Whole.{floor_size}
use Rattle.elementary.proofs.Fraction.{Below, below, Fraction, cut_below, cut_lt, cut_back, up_part, large_whole, equal, unequal, sign_is, floor_whole, floor_part}
use Rattle.elementary.proofs.whole.floor.Goals as goal

pub returns-then-not-a : goal.returns-then-not-a
unfolding of_bits
returns-then-not-a c =
    let x = c.args.x in
    floor_whole x (large_whole x c.abs-a.result (rw c.well_formed.0.1 tt) c.abs-a.ensures (ap not c.if-not-a.true))

pub truncating_f64_to_u64-k-requires : goal.truncating_f64_to_u64-k-requires
unfolding of_bits
truncating_f64_to_u64-k-requires c =
    let x = c.args.x in
    let a = c.abs-a in
    let cut = cut_below x a.result (below x a.result a.ensures (ap not c.if-not-a.false)) in
    record { lower_bound = cut.asks.0; upper_bound = cut.asks.1 }

-- x's size is a, and k the whole part of it
module _ (x a : Float) (k : ℕ) (s : Below x a) (is : k ≡ to_unsigned 64 a) where
  part : k ≡ num x / den x
  part = is ∙ (cut_below x a s).is

  part_lt : k < 2 ^ 52
  part_lt = rw part (cut_lt (num x) (den x) (den_pos x) s.small)

  part_le : k ≤ 2 ^ 53
  part_le = omega (arith, part_lt)

  -- where k is not the size
  fraction : eq (of_int binary64 (pos k)) a ≡ false → Fraction x
  fraction e = unequal x a k s part_le e (λ z. ap (λ i. i * den x) part ∙ cut_back (num x) (den x) (den_pos x) z)

pub int_to_float-y : goal.int_to_float-y
unfolding of_bits in_float
int_to_float-y c =
    let a = c.abs-a in
    let k = c.truncating_f64_to_u64-k in
    let s : Below c.args.x a.result = below _ _ a.ensures (ap not c.if-not-a.false) in
    le→leb k.result (2 ^ 53) (part_le _ _ _ s k.ensures)

pub returns-then-y-a : goal.returns-then-y-a
unfolding of_bits
returns-then-y-a c =
    let x = c.args.x in
    let a = c.abs-a in
    let k = c.truncating_f64_to_u64-k in
    let s : Below x a.result = below _ _ a.ensures (ap not c.if-not-a.false) in
    floor_whole x (equal x a.result k.result s (part_le _ _ _ s k.ensures) c.if-y-a.true)

pub overflow_add-result : goal.overflow_add-result
unfolding of_bits
overflow_add-result c =
    let a = c.abs-a in
    let s : Below c.args.x a.result = below _ _ a.ensures (ap not c.if-not-a.false) in
    omega (arith, part_lt _ _ _ s c.truncating_f64_to_u64-k.ensures)

pub returns-then-x : goal.returns-then-x
unfolding of_bits of_int
returns-then-x c =
    let x = c.args.x in
    let a = c.abs-a in
    let k = c.truncating_f64_to_u64-k.result in
    let is = c.truncating_f64_to_u64-k.ensures in
    let s : Below x a.result = below _ _ a.ensures (ap not c.if-not-a.false) in
    let f = fraction x a.result k s is c.if-y-a.false in
    let up = up_part (num x) (den x) (den_pos x) f in
    let next : k + 1 ≡ floor_size true (num x) (den x) = add-one k ∙ ap suc (part x a.result k s is) ∙ sym up in
    neg_round binary64 false (k + 1) 1 ∙ floor_part x true (k + 1) f (sign_is x true f c.if-x.true) next

pub returns-else-x : goal.returns-else-x
unfolding of_bits of_int
returns-else-x c =
    let x = c.args.x in
    let a = c.abs-a in
    let k = c.truncating_f64_to_u64-k.result in
    let is = c.truncating_f64_to_u64-k.ensures in
    let s : Below x a.result = below _ _ a.ensures (ap not c.if-not-a.false) in
    let f = fraction x a.result k s is c.if-y-a.false in
    floor_part x false k f (sign_is x false f c.if-x.false) (part x a.result k s is)

pub int_to_float-result : goal.int_to_float-result
unfolding of_bits in_float
int_to_float-result c =
    let a = c.abs-a in
    let k = c.truncating_f64_to_u64-k in
    let s : Below c.args.x a.result = below _ _ a.ensures (ap not c.if-not-a.false) in
    le→leb (k.result + 1) (2 ^ 53) (omega (arith, part_lt _ _ _ s k.ensures))
