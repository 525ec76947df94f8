-- Document 01, "The strike program": the header, and what a record of ten bytes asks for. Definitions only.
use Rattle.std.specs.Prelude.{ℕ, ◌+◌, ◌*◌, ◌-◌, Bool, true, false, not, ◌&&◌, List, ltb, eqb, length, get_or, Float}
use Rattle.std.specs.Float.{binary64}
use Rattle.std.specs.Float.Ieee.{of_bits}
use Rattle.answer.specs.Given.{Given, answered, refuse_if}
use Rattle.arithmetic.specs.Arith.{Arith}
use Rattle.coordinates.specs.CoordinateTransforms.{degrees, face}
use Rattle.coordinates.specs.declared.coords.Face.{Face}
use Rattle.coordinates.specs.declared.lonlat.LonLat.{LonLat}
use Rattle.strike_records.specs.declared.record.Request.{Request}
use Rattle.strike_records.specs.declared.record.Request.TheVariants as request

-- "EAD", and the 16-bit version 1, the high byte first
unfoldable pub headed : List ℕ → Bool
headed b =
    not (ltb (length b) 5)
    && (eqb (get_or b 0 0) 69 && (eqb (get_or b 1 0) 65 && (eqb (get_or b 2 0) 68 && (eqb (get_or b 3 0) 0 && eqb (get_or b 4 0) 1))))

-- "two signed 32-bit numbers, big-endian": four bytes as a number, and those of r from place i on
abbrev pub four : ℕ → ℕ → ℕ → ℕ → ℕ
four a b c d = a * 16777216 + b * 65536 + c * 256 + d

abbrev pub four_at : List ℕ → ℕ → ℕ
four_at r i = four (get_or r i 0) (get_or r (i + 1) 0) (get_or r (i + 2) 0) (get_or r (i + 3) 0)

-- 10000000.0
unfoldable pub 1e7 : Float
unfolding of_bits
1e7 = of_bits binary64 0x4163_12d0_0000_0000

-- 1000000000.0
unfoldable pub 1e9 : Float
unfolding of_bits
1e9 = of_bits binary64 0x41cd_cd65_0000_0000

module _ (A : Arith) where
  open A use {◌⊘◌, whole}

  infixl 60 ◌⊘◌
  -- from 2^31 on, a number n stands for n − 2^32
  unfoldable pub signed : ℕ → Float
  signed n = elim (ltb n 2147483648) [ true ↦ whole false n | false ↦ whole true (4294967296 - n) ]

  -- The two numbers of r that begin at a place: a record's at 2, and those of Paper 11's registers at 8.
  -- "longitude, latitude in 1e-7 degree (divided by 10000000.0)"
  unfoldable pub lon_lat_in : List ℕ → ℕ → LonLat
  lon_lat_in r at = record { longitude = degrees (signed (four_at r at) ⊘ 1e7); latitude = degrees (signed (four_at r (at + 4)) ⊘ 1e7) }

  -- "x, y in 1e-9 (divided by 1000000000.0)"
  unfoldable pub face_in : List ℕ → ℕ → Face
  face_in r at = face (signed (four_at r at) ⊘ 1e9) (signed (four_at r (at + 4)) ⊘ 1e9)

  -- "kind, origin": 12 where the kind is not 1 or 2, or is 1 with a non-zero origin byte
  unfoldable pub request_in : List ℕ → Given Request
  request_in r =
      elim (eqb (get_or r 0 0) 1) [
        | true ↦ refuse_if (not (eqb (get_or r 1 0) 0)) 12 (answered (request.Place (lon_lat_in r 2)))
        | false ↦ refuse_if (not (eqb (get_or r 0 0) 2)) 12 (answered (request.Unplace (face_in r 2) (get_or r 1 0)))
      ]
