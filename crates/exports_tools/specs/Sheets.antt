-- The sheet as a C function: what it returns, and what it leaves. Definitions only.
use Rattle.std.specs.Prelude.{ℕ, ◌≡◌, List}
use Rattle.sheet.specs.Sheet.{sheet_given, page_after}
use Rattle.answer.specs.Given.{status}

-- the sheet of these counts on the page p returns r, and leaves q
pub record SheetFor (counts p : List ℕ) (r : ℕ) (q : List ℕ) : Type 0 where
  pub status : r ≡ status (sheet_given p)
  pub page : q ≡ page_after (sheet_given p) counts p
