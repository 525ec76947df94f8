-- A square, and a sum of squares, is a NaN or has no sign. Assumes nothing.
use mathlib.Core.Bool.{Bool, true, false, cond}
use Prim.Native.Nat.{ℕ, zero, suc, ◌+◌, ◌*◌, ◌^◌}
use lib.Dec.{T, ltb}
use lib.Ieee.{Float, nan, inf, fin, Format, prec, emax, low, odd, units, round, sum, add, mul}
use Rattle.arithmetic.proofs.SqrtOrder.{unsigned}

either : (b : Bool) (x y : Float) → T (unsigned x) → T (unsigned y) → T (unsigned (cond b x y))
either true x y p q = p
either false x y p q = q

odd_unsigned : (d q k l : ℕ) → T (unsigned (odd d false q k l))
unfolding odd
odd_unsigned d zero k l = tt
odd_unsigned d (suc q) k l = tt

module _ (f : Format) where
  units_unsigned : (q k : ℕ) → T (unsigned (units f false q k))
  unfolding units
  units_unsigned q k =
      let small = ltb (q * 2 ^ k) (2 ^ (low f + suc (emax f))) in
      either small (odd (suc (prec f)) false q k (low f)) (inf false) (odd_unsigned (suc (prec f)) q k (low f)) tt

  round_unsigned : (a b : ℕ) → T (unsigned (round f false a b))
  unfolding round
  round_unsigned a b = units_unsigned _ _

  pub square_unsigned : (x : Float) → T (unsigned (mul f x x))
  unfolding mul
  square_unsigned nan = tt
  square_unsigned (inf true) = tt
  square_unsigned (inf false) = tt
  square_unsigned (fin true m e) = round_unsigned _ _
  square_unsigned (fin false m e) = round_unsigned _ _

  pub add_unsigned : (x y : Float) → T (unsigned x) → T (unsigned y) → T (unsigned (add f x y))
  unfolding add sum
  add_unsigned nan y p q = tt
  add_unsigned (inf true) y p q = absurd p
  add_unsigned (inf false) nan p q = tt
  add_unsigned (inf false) (inf true) p q = absurd q
  add_unsigned (inf false) (inf false) p q = tt
  add_unsigned (inf false) (fin t n d) p q = tt
  add_unsigned (fin true m e) y p q = absurd p
  add_unsigned (fin false m e) nan p q = tt
  add_unsigned (fin false m e) (inf true) p q = absurd q
  add_unsigned (fin false m e) (inf false) p q = tt
  add_unsigned (fin false m e) (fin true n d) p q = absurd q
  add_unsigned (fin false m e) (fin false n d) p q = round_unsigned _ _
