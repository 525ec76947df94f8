-- `remainder::of_sizes` meets its contract. Assumes nothing.
use mathlib.Core.Path.{◌≡◌, sym, ◌∙◌}
use mathlib.Core.Bool.{true}
use Prim.Native.Nat.{◌*◌, ◌%◌, ◌^◌}
use native.Mathlib.Omega.{arith}
use lib.Arith.{le→nltb}
use lib.Dec.{T}
use lib.Ieee.{binary64, fits, of_bits, to_bits}
use lib.Ieee.Bits.{of_bits-to_bits, nan_bits_above}
use Rattle.answer.specs.Number.{is_finite}
use Rattle.elementary.proofs.RemainderValues.{once, not_finite, no_divisor, finite_divisor, finite_number, finite_pattern, some_pattern, irreflexive}
use Rattle.elementary.proofs.remainder.of_sizes.Goals as goal
use Rattle.elementary.proofs.remainder.of_sizes.Goals.{Start, Else-not-is_finite}

-- a station
abbrev start : Else-not-is_finite → Start
start c = c.before.before.before

module _ (c : Start) where
  held_a : T (fits binary64 c.args.a)
  held_a = rw c.well_formed.0.1 tt

  held_b : T (fits binary64 c.args.b)
  held_b = rw c.well_formed.1.0.1 tt

  back_a : of_bits binary64 (to_bits binary64 c.args.a) ≡ c.args.a
  back_a = of_bits-to_bits binary64 c.args.a held_a

  back_b : of_bits binary64 (to_bits binary64 c.args.b) ≡ c.args.b
  back_b = of_bits-to_bits binary64 c.args.b held_b

finite_a : (c : Else-not-is_finite) → is_finite (start c).args.a ≡ true
finite_a c = sym c.is_finite.ensures ∙ c.if-not-is_finite.false

finite_b : (c : goal.Then-b) → is_finite (start c.before).args.b ≡ true
finite_b c = let s = start c.before in finite_divisor s.args.a s.args.b s.requires.1 (finite_a c.before) s.requires.2 c.if-b.true

pub returns-then-d-b : goal.returns-then-d-b
returns-then-d-b c = once c.args.a c.args.b (held_b c.before) c.requires.0 c.requires.1 c.requires.2 c.if-d-b.true

pub returns-then-not-is_finite : goal.returns-then-not-is_finite
unfolding of_bits
returns-then-not-is_finite c =
    not_finite c.args.a c.args.b (sym c.is_finite.ensures ∙ c.if-not-is_finite.true)

pub float_to_bits-a : goal.float_to_bits-a
float_to_bits-a c = finite_number (start c.before).args.a (finite_a c.before)

pub of_patterns-requires : goal.of_patterns-requires
of_patterns-requires c =
    let s = start c.before in
    let a = s.args.a in
    let b = s.args.b in (
      some_pattern a b (held_a s) s.requires.2 c.if-b.true,
      finite_pattern a (held_a s) s.requires.0 (finite_a c.before),
      some_pattern b b (held_b s) (irreflexive b) c.if-b.true,
      finite_pattern b (held_b s) s.requires.1 (finite_b c),
      rw (back_a s, back_b s) s.requires.2,
    )

pub float_from_bits-result : goal.float_from_bits-result
float_from_bits-result c = let r = c.of_patterns.result in rw (nan_bits_above binary64 r) (le→nltb (2047 * 2 ^ 52) (r % 2 ^ 63) (omega arith))

pub returns-then-b : goal.returns-then-b
returns-then-b c = let s = start c.before.before in rw (back_a s, back_b s) at c.of_patterns.ensures.1

pub returns-else-b : goal.returns-else-b
unfolding of_bits
returns-else-b c = let s = start c.before in no_divisor s.args.a s.args.b s.requires.1 (finite_a c.before) c.if-b.false
