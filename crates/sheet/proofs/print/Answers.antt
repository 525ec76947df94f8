-- `sheet::print` meets its contract: by the page's length. Assumes nothing.
use mathlib.Core.Path.{◌≡◌, sym, ap, ◌∙◌}
use mathlib.Core.List.{List}
use Prim.Native.Nat.{ℕ}
use borrow.Author.Tests.{eq-eqb, ne_eqb}
use lib.ListN.{length}
use Rattle.std.specs.Prelude.{Ok, Err}
use Rattle.answer.specs.Given.{Given, refused, passed}
use Rattle.sheet.specs.Page.{page_of}
use Rattle.sheet.specs.Sheet.{PAGE, sheet_given, page_after, SheetOf}
use Rattle.answer.specs.declared.Refusal.TheVariants as refusal
use Rattle.sheet.proofs.print.Goals as goal

module _ (counts page : List ℕ) where
  wrong : (length page ≡ PAGE → ⊥) → sheet_given page ≡ refused 26
  unfolding sheet_given
  wrong h = rw (ne_eqb (length page) PAGE h)

  right : length page ≡ PAGE → sheet_given page ≡ passed
  unfolding sheet_given
  right h = rw (eq-eqb (length page) PAGE h)

  refuses : (length page ≡ PAGE → ⊥) → SheetOf counts page (Err refusal.PageLength) page
  refuses h =
      let given = wrong h in
      record { answer = sym given; page = sym (ap (λ (g : Given (Unit {0})). page_after g counts page) given) }

  prints : length page ≡ PAGE → (q : List ℕ) → q ≡ page_of counts → SheetOf counts page (Ok tt) q
  prints h q e =
      let given = right h in
      record { answer = sym given; page = e ∙ sym (ap (λ (g : Given (Unit {0})). page_after g counts page) given) }

pub returns-then-page-ne-PAGE : goal.returns-then-page-ne-PAGE
returns-then-page-ne-PAGE c = refuses _ _ c.if-page-ne-PAGE.true

pub returns : goal.returns
returns c =
    prints _ _ c.if-page-ne-PAGE.false _ c.write_page.ensures
