-- A double as eight bytes, the highest first. Definitions only.
use Rattle.std.specs.Prelude.{ℕ, zero, suc, ◌+◌, ◌*◌, ◌/◌, ◌%◌, ◌^◌, List, [], ◌∷◌, length, Float}
use Rattle.std.specs.Float.{binary64}
use Rattle.std.specs.Float.Ieee.{of_bits, to_bits}

-- bytes as one number, the highest first
unfoldable pub big_endian : List ℕ → ℕ
big_endian [] = 0
big_endian (b ∷ bs) = b * 2 ^ (8 * length bs) + big_endian bs

-- the m lowest bytes of a number, the highest of them first
unfoldable pub bytes_of : ℕ → ℕ → List ℕ
bytes_of zero n = []
bytes_of (suc m) n = n / 2 ^ (8 * m) % 256 ∷ bytes_of m n

-- the double whose bits eight bytes are; NaN for every pattern of a NaN
unfoldable pub double_in : List ℕ → Float
double_in bs = of_bits binary64 (big_endian bs)

-- the eight bytes of a double's bits
unfoldable pub double_bytes : Float → List ℕ
double_bytes x = bytes_of 8 (to_bits binary64 x)
