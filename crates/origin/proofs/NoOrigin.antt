-- Behind the twelfth origin a table has only NaN. Assumes nothing.
use mathlib.Core.Path.{◌≡◌, refl, sym, ◌∙◌}
use mathlib.Core.List.{List}
use Prim.Native.Nat.{ℕ, ◌+◌, ◌*◌, ◌≤◌, ◌<◌}
use native.Mathlib.Omega.{arith}
use lib.ListN.{length, get_or, get_or-eq_default}
use lib.Ieee.{Float, nan, binary64, of_bits}
use Rattle.origin.specs.Origins.{origin_of, origin_at}

-- NaN as the code has it
abbrev made : Float
made = of_bits binary64 0x7ff8_0000_0000_0000

made_nan : made ≡ nan
unfolding of_bits
made_nan = refl

module _ (table : List Float) (rows : length table ≡ 84) where
  past : (n : ℕ) → 84 ≤ n → made ≡ get_or table n nan
  past n h = made_nan ∙ sym (get_or-eq_default table nan {n = n} (omega arith))

  pub no_origin : (k : ℕ) → 11 < k → origin_of made made made made made made made ≡ origin_at table k
  unfolding origin_at
  no_origin k h =
      λ i.
      origin_of
      (past (7 * k) (omega arith) i)
      (past (7 * k + 1) (omega arith) i)
      (past (7 * k + 2) (omega arith) i)
      (past (7 * k + 3) (omega arith) i)
      (past (7 * k + 4) (omega arith) i)
      (past (7 * k + 5) (omega arith) i)
      (past (7 * k + 6) (omega arith) i)
