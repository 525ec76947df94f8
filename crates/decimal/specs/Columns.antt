-- A number's digits in columns of a width. Definitions only.
use Rattle.std.specs.Prelude.{ℕ, ◌-◌, List, ◌++◌, length, drop, replicate}
use Rattle.decimal.specs.Bytes.{SPACE}

abbrev pub spaces : ℕ → List ℕ
spaces n = replicate n SPACE

-- "right-aligned" in w columns; of a longer text the last w bytes stand there
unfoldable pub right_aligned : ℕ → List ℕ → List ℕ
right_aligned w text = spaces (w - length text) ++ drop (length text - w) text
