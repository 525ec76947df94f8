-- Paper 13: the page as text. Definitions only.
use Rattle.std.specs.Prelude.{ℕ, get_or, take, replicate}
use mathlib.Core.List.{List, [], ◌∷◌, flatten}
use Rattle.decimal.specs.Decimal.{decimal}
use Rattle.window.specs.EveryList.{sum}
pub use Rattle.sheet.specs.Line.{SPACE, NEWLINE, spaces, blank}
unfoldable pub use Rattle.sheet.specs.Line.{line, right_aligned}
use Rattle.sheet.specs.Letters.{A, C, L, M, N, O, R, S, T, U}

-- ---- texts

-- "Line 1 is "STORM COUNTS""
abbrev pub TITLE : List ℕ
TITLE = S ∷ T ∷ O ∷ R ∷ M ∷ SPACE ∷ C ∷ O ∷ U ∷ N ∷ T ∷ S ∷ []

-- "Line 15 has "ALL""
abbrev pub ALL : List ℕ
ALL = A ∷ L ∷ L ∷ []

-- ---- a line

-- a line with a number "in columns 71 to 80"
abbrev pub numbered : List ℕ → ℕ → List ℕ
numbered left n = line left (right_aligned 10 (decimal n))

-- the row of origin k: "in columns 1 to 2 and the window's count of each in columns 71 to 80, both right-aligned with spaces between"
abbrev pub row : List ℕ → ℕ → List ℕ
row counts k = numbered (right_aligned 2 (decimal k)) (get_or counts k 0)

-- ---- the page

-- the lines, from first to last
unfoldable pub lines_of : List ℕ → List (List ℕ)
lines_of counts =
    -- "Line 1 is "STORM COUNTS" and spaces."
    line TITLE []
    -- "Line 2 is spaces."
    ∷ blank
    -- "Lines 3 to 14 have origins 0 to 11 in turn"
    ∷ row counts 0
    ∷ row counts 1
    ∷ row counts 2
    ∷ row counts 3
    ∷ row counts 4
    ∷ row counts 5
    ∷ row counts 6
    ∷ row counts 7
    ∷ row counts 8
    ∷ row counts 9
    ∷ row counts 10
    ∷ row counts 11
    -- "Line 15 has "ALL" in columns 1 to 3 and the sum, right-aligned too, in columns 71 to 80."
    ∷ numbered ALL (sum (take 12 counts))
    -- "The other lines are spaces.": 45 of the 60
    ∷ replicate 45 blank

-- "The window determines all 4,860 bytes", by its twelve counts alone: the lines one after the other
unfoldable pub page_of : List ℕ → List ℕ
page_of counts = flatten (lines_of counts)
