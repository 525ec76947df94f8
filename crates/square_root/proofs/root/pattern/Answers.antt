-- `root::pattern` meets its contract: from infinity's pattern on there are infinities, NaNs and the values whose sign is set. Assumes nothing.
use borrow.Author.Tests.{le-leb}
use mathlib.Core.Path.{◌≡◌, refl, sym, ap, ◌∙◌, subst}
use mathlib.Core.Bool.{false}
use Prim.Native.Nat.{ℕ, ◌*◌, ◌^◌, ◌≤◌}
use native.Mathlib.Nat.{lt_of_not-le}
use native.Mathlib.Decide.{dec_le}
use native.Mathlib.Omega.{arith}
use lib.Dec.{T}
use lib.Ieee.{Float, binary64, fits, of_bits, to_bits}
use lib.Ieee.Bits.{of_bits-to_bits}
use lib.Ieee.Positive.{positive}
use Rattle.elementary.proofs.SignBit.{sign_bit, the_nan}
use Rattle.square_root.proofs.RootBits.{top_not_positive, negative_not_positive}
use Rattle.square_root.proofs.root.pattern.Goals as goal
use Rattle.square_root.proofs.root.pattern.Goals.{then-b-eq0-via-then-b-eq0, then-b-eq0-via-else-b-eq0+then-b-ge9218868437227405312}

zero_not_positive : positive (of_bits binary64 0) ≡ false
unfolding of_bits
zero_not_positive = refl

pub returns-then-is_nan : goal.returns-then-is_nan
returns-then-is_nan c = ap positive (the_nan c.args.x (sym c.if-is_nan.ensures.value))

pub returns-then-b-eq0 : goal.returns-then-b-eq0
returns-then-b-eq0 c =
    elim c.then-b-eq0.branch [
      | then-b-eq0-via-then-b-eq0 w ↦ ap positive (sym back ∙ ap (of_bits binary64) w.if-b-eq0.true) ∙ zero_not_positive
      | then-b-eq0-via-else-b-eq0+then-b-ge9218868437227405312 w ↦ by w.if-b-ge9218868437227405312.true (dec_le (2 ^ 63) b)
    ]
  where
    x : Float
    x = c.args.x

    held : T (fits binary64 x)
    held = rw c.well_formed.0.1 tt

    back : of_bits binary64 (to_bits binary64 x) ≡ x
    back = of_bits-to_bits binary64 x held

    b : ℕ
    b = to_bits binary64 x

    by : 2047 * 2 ^ 52 ≤ b → Dec (2 ^ 63 ≤ b) → positive x ≡ false
    by l (yes h) = negative_not_positive x (sym (sign_bit x held c.if-is_nan.ensures.not_nan) ∙ le-leb (2 ^ 63) b h)
    by l (no h) = subst (λ v. positive v ≡ false) back (top_not_positive b l (lt_of_not-le h))

pub returns : goal.returns
returns c = record { some = omega arith; is = of_bits-to_bits binary64 c.args.x (rw c.well_formed.0.1 tt); most = omega arith }
