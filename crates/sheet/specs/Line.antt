-- Paper 13: a line of the page as text. Definitions only.
use Rattle.std.specs.Prelude.{ℕ, ◌+◌, ◌-◌, List, [], ◌∷◌, ◌++◌, length}
pub use Rattle.decimal.specs.Bytes.{SPACE, NEWLINE}
pub use Rattle.decimal.specs.Columns.{spaces}
unfoldable pub use Rattle.decimal.specs.Columns.{right_aligned}

-- "80 columns .. each line ended by a newline": a text from column 1 on, a text up to column 80, and "spaces between"
unfoldable pub line : List ℕ → List ℕ → List ℕ
line left right = left ++ (spaces (80 - (length left + length right)) ++ (right ++ (NEWLINE ∷ [])))

-- a line that "is spaces"
abbrev pub blank : List ℕ
blank = line [] []
