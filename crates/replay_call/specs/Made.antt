-- What the program makes of a call's numbers: a block of registers, and a few positions near one. Definitions only.
use Rattle.std.specs.Prelude.{ℕ, ◌/◌, ◌%◌, List, set, replicate}
use Rattle.arithmetic.specs.Arith.{Arith}
use Rattle.coordinates.specs.CoordinateTransforms.{degrees}
use Rattle.coordinates.specs.declared.lonlat.LonLat.{LonLat}
use Rattle.replay_call.specs.declared.steps.Registers.{Registers}

-- four bytes from a place on: a number's, the highest first
abbrev pub with_four : List ℕ → ℕ → ℕ → ℕ → ℕ → ℕ → List ℕ
with_four b i j k l n = set (set (set (set b i (n / 16777216 % 256)) j (n / 65536 % 256)) k (n / 256 % 256)) l (n % 256)

-- the block of 32 bytes
unfoldable pub block_of : Registers → List ℕ
block_of r =
    let bytes = set (set (set (set (replicate 32 r.others) 0 r.command) 1 r.status) 2 r.mask) 4 r.origin in
    with_four (with_four bytes 8 9 10 11 r.first) 12 13 14 15 r.second

-- the longitude of one position with the latitude of another
abbrev pub corner : LonLat → LonLat → LonLat
corner p q = record { longitude = p.longitude; latitude = q.latitude }

module _ (A : Arith) where
  open A use {◌⊕◌}

  infixl 60 ◌⊕◌
  -- the position that lies so far on
  unfoldable pub further : LonLat → LonLat → LonLat
  further p by =
      record { longitude = degrees (p.longitude.0 ⊕ by.longitude.0); latitude = degrees (p.latitude.0 ⊕ by.latitude.0) }

  -- so many positions: eight about p, and p again for all behind them
  unfoldable pub nearby : ℕ → LonLat → LonLat → List LonLat
  nearby n p by =
      let q = further p by in
      let r = further q by in
      let square = set (set (set (replicate n p) 1 (corner q p)) 2 q) 3 (corner p q) in
      set (set (set (set square 4 r) 5 (corner r q)) 6 (corner q r)) 7 (corner r p)
