-- Paper 13: what the call gives and what it leaves. Definitions only.
use Rattle.std.specs.Prelude.{ℕ, ◌≡◌, not, List, Result, eqb, length}
use Rattle.answer.specs.Given.{Given, answered, refused, passed, refuse_if}
use Rattle.answer.specs.Answer.{given}
use Rattle.answer.specs.declared.Refusal.{Refusal}
use Rattle.sheet.specs.Page.{page_of}

-- 60 lines of 80 columns and a newline
abbrev pub PAGE : ℕ
PAGE = 4860

-- "Refusal 26: the lent page isn't 4,860 bytes, tried first"
unfoldable pub sheet_given : List ℕ → Given (Unit {0})
sheet_given page = refuse_if (not (eqb (length page) PAGE)) 26 passed

-- the page after it: of a refused call "page unchanged"
abbrev pub page_after : Given (Unit {0}) → List ℕ → List ℕ → List ℕ
page_after (refused n) counts page = page
page_after (answered u) counts page = page_of counts

-- the sheet of these counts on the page p answers a, and leaves q
pub record SheetOf (counts p : List ℕ) (a : Result (Unit {0}) Refusal) (q : List ℕ) : Type 0 where
  pub answer : given a ≡ sheet_given p
  pub page : q ≡ page_after (sheet_given p) counts p
