-- When a buffer holds the numbers that stand in another from a place on. Definitions only.
use Rattle.std.specs.Prelude.{ℕ, ◌+◌, ◌<◌, ◌≡◌, List, Float, length, get_or}
use Rattle.std.specs.Float.{nan, binary64}
use Rattle.std.specs.Float.Ieee.{to_bits}

-- two numbers have the same bits
abbrev pub AlikeAt : List Float → List Float → ℕ → ℕ → Type 0
AlikeAt buffer wanted at k = to_bits binary64 (get_or buffer k nan) ≡ to_bits binary64 (get_or wanted (at + k) nan)

-- at each place of the buffer
abbrev pub AlikeFrom : List Float → List Float → ℕ → Type 0
AlikeFrom buffer wanted at = (k : ℕ) → k < length buffer → AlikeAt buffer wanted at k
