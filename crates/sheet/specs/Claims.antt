-- Paper 13 as claims about a page, for a reader who holds one in hand. Definitions only; `proofs/Theorem` proves them.
use Rattle.std.specs.Prelude.{ℕ, ◌+◌, ◌*◌, ◌%◌, ◌^◌, ◌<◌, ◌≤◌, ◌≡◌, List, Result, length, get_or, take, drop}
use Rattle.decimal.specs.Decimal.{number_in}
use Rattle.window.specs.Window.{empty_window}
use Rattle.window.specs.Kept.{Strike, kept, accepted, count}
use Rattle.window.specs.EveryList.{sum, after}
use Rattle.window.specs.declared.Window.{Window}
use Rattle.sheet.specs.Page.{SPACE, NEWLINE, page_of}
use Rattle.sheet.specs.Sheet.{PAGE, SheetOf}
use Rattle.answer.specs.declared.Refusal.{Refusal}

-- n bytes of a page from byte c of line l on; lines and bytes are counted from 0, so column 71 is byte 70
abbrev pub columns_at : List ℕ → ℕ → ℕ → ℕ → List ℕ
columns_at page l c n = take n (drop (l * 81 + c) page)

-- "It has 80 columns and 60 lines, each line ended by a newline"
pub record LaidOut (page : List ℕ) : Type 0 where
  pub bytes : length page ≡ PAGE
  pub newline : (l : ℕ) → l < 60 → get_or page (l * 81 + 80) 0 ≡ NEWLINE
  -- no other byte is one: each is a space, or stands behind it in the order of bytes
  pub printable : (l c : ℕ) → l < 60 → c < 80 → SPACE ≤ get_or page (l * 81 + c) 0

-- "a number's digits read back are the number": of one that is too long for its columns the last ten digits
pub record ReadsBack (counts page : List ℕ) : Type 0 where
  pub origins : (k : ℕ) → k < 12 → number_in (columns_at page (2 + k) 0 2) ≡ k
  pub rows : (k : ℕ) → k < 12 → number_in (columns_at page (2 + k) 70 10) ≡ get_or counts k 0 % 10 ^ 10
  pub all : number_in (columns_at page 14 70 10) ≡ sum (take 12 counts) % 10 ^ 10

abbrev pub EveryPage : Type 0
EveryPage = (counts : List ℕ) → LaidOut (page_of counts) × ReadsBack counts (page_of counts)

-- "The window determines all 4,860 bytes": whatever stood on the two pages, windows with the same counts leave the same
abbrev pub SamePage : Type 0
SamePage =
    (v w : Window) (p p' q q' : List ℕ) (a a' : Result (Unit {0}) Refusal) → v.counts ≡ w.counts → length p ≡ PAGE → length p' ≡ PAGE
    → SheetOf v.counts p a q → SheetOf w.counts p' a' q' → q ≡ q'

-- and the page determines the twelve counts of 32 bits
abbrev pub SameCounts : Type 0
SameCounts =
    (c d : List ℕ) → ((k : ℕ) → k < 12 → (get_or c k 0 < 2 ^ 32) × (get_or d k 0 < 2 ^ 32)) → page_of c ≡ page_of d
    → (k : ℕ) → k < 12 → get_or c k 0 ≡ get_or d k 0

-- for a window that only additions wrote, the rows are the kept strikes of each origin, and "ALL is the number kept"
pub record PrintsKept (ss : List Strike) (page : List ℕ) : Type 0 where
  pub rows : (k : ℕ) → k < 12 → number_in (columns_at page (2 + k) 70 10) ≡ count k (kept (accepted ss))
  pub all : number_in (columns_at page 14 70 10) ≡ length (kept (accepted ss))

abbrev pub EverySheet : Type 0
EverySheet = (ss : List Strike) → PrintsKept ss (page_of (after empty_window ss).counts)
