-- Document 01, "Elementary steps": floor and round. n / d is the size of a finite value. Definitions only.
use Rattle.std.specs.Prelude.{ℕ, ◌+◌, ◌-◌, ◌*◌, ◌/◌, ◌%◌, Bool, true, false, cond, ℤ, pos, neg_ℤ, ◌==◌, Float}
use Rattle.std.specs.Float.{nan, inf, fin}
use Rattle.std.specs.Float.Ieee.{up, down}
use Rattle.arithmetic.specs.Arith.{Arith}

-- the size of the greatest whole number that is not above ± n / d: of a negative one the size goes up to the next whole number
abbrev pub floor_size : Bool → ℕ → ℕ → ℕ
floor_size s n d = cond s ((n + d - 1) / d) (n / d)

-- the size of the whole number nearest to ± n / d, halves away from zero: n / d + 1/2 cut to a whole number
abbrev pub round_size : ℕ → ℕ → ℕ
round_size n d = (2 * n + d) / (2 * d)

module _ (A : Arith) where
  open A use {whole}

  -- "Floor is downward": a whole number is its own, so are NaN and the infinities, and -0 stays -0.
  unfoldable pub floor : Float → Float
  floor nan = nan
  floor (inf s) = inf s
  floor (fin s m e) = elim (m * up e % down e == 0) [ true ↦ fin s m e | false ↦ whole s (floor_size s (m * up e) (down e)) ]

  -- "Round takes halves away from zero." The sign stays, so that -0.3 gives -0.
  unfoldable pub round : Float → Float
  round nan = nan
  round (inf s) = inf s
  round (fin s m e) = elim (m * up e % down e == 0) [ true ↦ fin s m e | false ↦ whole s (round_size (m * up e) (down e)) ]

-- ---- as whole numbers, which have no signed zero; 0 where x is not finite

-- k or -k
abbrev pub signed : Bool → ℕ → ℤ
signed s k = cond s (neg_ℤ (pos k)) (pos k)

-- "floor(..)" as a whole number
unfoldable pub floorℤ : Float → ℤ
floorℤ nan = pos 0
floorℤ (inf s) = pos 0
floorℤ (fin s m e) = signed s (floor_size s (m * up e) (down e))

-- "the whole number round(..)"
unfoldable pub roundℤ : Float → ℤ
roundℤ nan = pos 0
roundℤ (inf s) = pos 0
roundℤ (fin s m e) = signed s (round_size (m * up e) (down e))
