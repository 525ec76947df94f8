-- `big_endian::value` meets its contract: `of_bits` reads a NaN's bits as `nan`, which is also what `f64::NAN` is. Assumes nothing.
use mathlib.Core.Path.{◌≡◌, refl, sym, ◌∙◌, subst}
use mathlib.Core.Bool.{true}
use lib.Dec.{T}
use lib.Ieee.{Float, nan, inf, fin, binary64, is_nan, of_bits}
use lib.Ieee.Bits.{nan_bits_is}
use Rattle.answer.proofs.big_endian.value.Goals as goal

only_nan : (x : Float) → true ≡ is_nan x → nan ≡ x
unfolding is_nan
only_nan nan e = refl
only_nan (inf s) e = absurd (subst T e tt)
only_nan (fin s m k) e = absurd (subst T e tt)

pub returns-then-is_nan : goal.returns-then-is_nan
unfolding of_bits
returns-then-is_nan c =
    let bits = c.args.bits in
    only_nan (of_bits binary64 bits) (sym c.if-is_nan.true ∙ c.is_nan.ensures ∙ nan_bits_is binary64 bits)
