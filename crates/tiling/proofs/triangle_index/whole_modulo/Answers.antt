-- `triangle_index::whole_modulo` meets its contract: below 2^52 by the whole part itself, from there on by what the size leaves by 10.0, which is
-- exact. Assumes nothing.
use Rattle.std.proofs.Common.{◌≡◌, ◌%◌, Bool, true, not, T, sym, ap, ◌∙◌, subst}
use native.Mathlib.Nat.{mod-mod}
use lib.Ieee.{Float, binary64, fits, rem, lt, of_bits, to_unsigned}
use Rattle.answer.specs.Number.{is_finite}
use Rattle.elementary.specs.Signs.{abs}
use Rattle.elementary.proofs.Fraction.{Below, below, cut_below}
use Rattle.tiling.proofs.Modulo.{modulo_is, not_finite, LastDigit, last_digit}
use Rattle.tiling.proofs.triangle_index.whole_modulo.Goals as goal

small : (x a : Float) → a ≡ abs x → lt a (of_bits binary64 0x4330_0000_0000_0000) ≡ true → Below x a
unfolding of_bits
small x a e l = below x a e (ap not l)

pub truncating_f64_to_u64-requires : goal.truncating_f64_to_u64-requires
truncating_f64_to_u64-requires c =
    let asks = (cut_below c.args.x c.abs-a.result (small c.args.x c.abs-a.result c.abs-a.ensures c.if-a.true)).asks in
    record { lower_bound = asks.0; upper_bound = asks.1 }

pub returns-then-a : goal.returns-then-a
returns-then-a c =
    let cut = c.truncating_f64_to_u64 in
    let sign = c.negative in
    let x = c.args.x in
    let part = cut.ensures ∙ (cut_below x c.abs-a.result (small x c.abs-a.result c.abs-a.ensures c.if-a.true)).is in
    c.modulo.ensures ∙ modulo_is x sign.result cut.result sign.ensures (ap (λ k. k % 10) part)

pub returns-then-not-is_finite : goal.returns-then-not-is_finite
returns-then-not-is_finite c = not_finite c.args.x (sym c.is_finite.ensures ∙ c.if-not-is_finite.true)

-- where the size is known, and x is finite
digit : (x a : Float) {f : Bool} → fits binary64 a ≡ true → f ≡ is_finite x → f ≡ true → a ≡ abs x
    → LastDigit x (rem binary64 a (of_bits binary64 0x4024_0000_0000_0000))
digit x a h finite f e = last_digit x a (subst T (sym h) tt) (sym finite ∙ f) e

pub truncating_f64_to_u64-requires-2 : goal.truncating_f64_to_u64-requires-2
truncating_f64_to_u64-requires-2 c =
    let a = c.abs-a in
    let asks = (digit c.args.x a.result a.type_inv c.is_finite.ensures c.if-not-is_finite.false a.ensures).asks in
    rw c.remainder-left.ensures (record { lower_bound = asks.0; upper_bound = asks.1 })

pub returns : goal.returns
returns c =
    let a = c.abs-a in
    let cut = c.truncating_f64_to_u64-2 in
    let sign = c.negative-2 in
    let one = digit c.args.x a.result a.type_inv c.is_finite.ensures c.if-not-is_finite.false a.ensures in
    let left = cut.ensures ∙ ap (to_unsigned 64) c.remainder-left.ensures ∙ one.is in
    c.modulo-2.ensures ∙ modulo_is c.args.x sign.result cut.result sign.ensures (ap (λ k. k % 10) left ∙ mod-mod _ 10)
