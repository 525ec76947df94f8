-- Document 01, "The strike program": a line for each answer and each refusal, as its bytes. Definitions only.
use Rattle.std.specs.Prelude.{ℕ, zero, suc, ◌+◌, ◌/◌, ◌%◌, cond, List, [], ◌∷◌, ◌++◌, ltb, Float}
use Rattle.std.specs.Float.{binary64}
use Rattle.std.specs.Float.Ieee.{to_bits}
pub use Rattle.decimal.specs.Bytes.{SPACE, NEWLINE}
use Rattle.coordinates.specs.declared.lonlat.LonLat.{LonLat}
use Rattle.dodecahedron.specs.declared.place.Place.{Place}

-- room for any line
abbrev pub LINE : ℕ
LINE = 40

-- a digit below 16: 0 to 9, then a to f
abbrev pub digit : ℕ → ℕ
digit d = cond (ltb d 10) (48 + d) (87 + d)

-- the last k hexadecimal digits of n, the highest first
unfoldable pub hex : ℕ → ℕ → List ℕ
hex zero n = []
hex (suc k) n = hex k (n / 16) ++ (digit (n % 16) ∷ [])

-- "Floats are 16 lower-case hexadecimal digits of their bits."
abbrev pub bits_of : Float → List ℕ
bits_of x = hex 16 (to_bits binary64 x)

-- a number below 1,000 in decimal
unfoldable pub decimal : ℕ → List ℕ
decimal n =
    cond (ltb n 10) ((48 + n) ∷ [])
    (cond (ltb n 100) ((48 + n / 10) ∷ (48 + n % 10) ∷ [])
    ((48 + n / 100) ∷ (48 + n / 10 % 10) ∷ (48 + n % 10) ∷ []))

-- "One space parts fields, a newline ends each line."
abbrev pub fields : List (List ℕ) → List ℕ
fields [] = NEWLINE ∷ []
fields (f ∷ fs) = (SPACE ∷ f) ++ fields fs

-- "P, decimal id, x, y"
unfoldable pub place_line : Place → List ℕ
place_line p = 80 ∷ fields (decimal p.origin ∷ bits_of p.face.0.x ∷ bits_of p.face.0.y ∷ [])

-- "U, longitude, latitude"
unfoldable pub lon_lat_line : LonLat → List ℕ
lon_lat_line l = 85 ∷ fields (bits_of l.longitude.0 ∷ bits_of l.latitude.0 ∷ [])

-- "R and the number"
unfoldable pub refusal_line : ℕ → List ℕ
refusal_line n = 82 ∷ fields (decimal n ∷ [])
