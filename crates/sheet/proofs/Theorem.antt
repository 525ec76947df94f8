-- Paper 13's claims, for every twelve counts, and for a window after every list of additions. Assumes nothing.
use mathlib.Core.Path.{◌≡◌, refl, sym, ap, ◌∙◌}
use mathlib.Core.List.{List, []}
use Prim.Native.Nat.{ℕ, ◌+◌, ◌%◌, ◌^◌, ◌≤◌, ◌<◌}
use native.Mathlib.Omega.{arith}
use native.Mathlib.Nat.{mod-eq_of_lt}
use borrow.Author.Tests.{eq-eqb}
use lib.ListN.{length, get_or, take, drop}
use lib.Seq.{take_all}
use Rattle.answer.specs.Given.{Given, passed}
use Rattle.decimal.specs.Decimal.{decimal, number_in}
use Rattle.window.specs.Window.{empty_window}
use Rattle.window.specs.Kept.{kept, accepted}
use Rattle.window.specs.EveryList.{sum, after}
use Rattle.window.proofs.Recent.{count_most}
use Rattle.window.proofs.Theorem.{every_list}
use Rattle.sheet.specs.Page.{TITLE, ALL, line, right_aligned, numbered, lines_of, page_of}
use Rattle.sheet.specs.Sheet.{PAGE, sheet_given, page_after, SheetOf}
use Rattle.std.specs.Prelude.{Result}
use Rattle.answer.specs.declared.Refusal.{Refusal}
use Rattle.sheet.specs.Claims.{columns_at, LaidOut, ReadsBack, EveryPage, SamePage, SameCounts, EverySheet}
use Rattle.decimal.proofs.Columns.{length_aligned, reads_aligned}
use Rattle.sheet.proofs.Lines.{each_line, row_at, first_long, all_lines}
use Rattle.sheet.proofs.Columns.{Columns, line_columns, numbered_columns, number_prints, newline_of, column_of, number_of, left_of, byte_in, columns_in}

module _ (counts : List ℕ) where
  -- ---- every line has 80 columns and its newline
  lines_columns : (l : ℕ) → l < 60 → Columns (get_or (lines_of counts) l [])
  lines_columns =
      each_line counts Columns
      (line_columns TITLE [] (omega arith) (search arith) tt) (line_columns [] [] (omega arith) tt tt)
      (λ k h. numbered_columns (right_aligned 2 (decimal k)) (get_or counts k 0) (omega (arith, length_aligned 2 (decimal k))) (number_prints 2 k))
      (numbered_columns ALL (sum (take 12 counts)) (omega arith) (search arith))

  laid_out : LaidOut (page_of counts)
  laid_out =
      record {
        bytes = ap length (sym (all_lines counts)) ∙ first_long counts 60 (omega arith);
        newline = λ l h. byte_in counts l h 80 (omega arith) ∙ newline_of (get_or (lines_of counts) l []) (lines_columns l h);
        printable = λ l c h k. rw (byte_in counts l h c (omega arith)) (column_of (get_or (lines_of counts) l []) c k (lines_columns l h));
      }

  -- ---- the numbers read back
  number_in_lem : (l : ℕ) → l < 60 → (left : List ℕ) (n : ℕ) → length left ≤ 70 → get_or (lines_of counts) l [] ≡ numbered left n
      → number_in (columns_at (page_of counts) l 70 10) ≡ n % 10 ^ 10
  number_in_lem l h left n k e =
      ap number_in (columns_in counts l h 70 10 (omega arith) ∙ ap (λ (t : List ℕ). take 10 (drop 70 t)) e ∙ number_of left n k) ∙ reads_aligned 9 n

  reads_back : ReadsBack counts (page_of counts)
  unfolding lines_of
  reads_back =
      record {
        origins = λ k h. origin_in k h;
        rows = λ k h. number_in_lem (2 + k) (omega arith) (right_aligned 2 (decimal k)) (get_or counts k 0)
            (omega (arith, length_aligned 2 (decimal k))) (row_at counts k h);
        all = number_in_lem 14 (omega arith) ALL (sum (take 12 counts)) (omega arith) refl;
      }
    where
      origin_in : (k : ℕ) → k < 12 → number_in (columns_at (page_of counts) (2 + k) 0 2) ≡ k
      origin_in k h =
          let left = right_aligned 2 (decimal k) in
          let right = right_aligned 10 (decimal (get_or counts k 0)) in
          let two = ap (λ (n : ℕ). take n (line left right)) (sym (length_aligned 2 (decimal k))) ∙ left_of left right in
          ap number_in (columns_in counts (2 + k) (omega arith) 0 2 (omega arith) ∙ ap (take 2) (row_at counts k h) ∙ two)
          ∙ reads_aligned 1 k ∙ mod-eq_of_lt (omega arith)

pub every_page : EveryPage
every_page counts = (laid_out counts, reads_back counts)

-- ---- the window determines the page
prints : (p : List ℕ) → length p ≡ PAGE → sheet_given p ≡ passed
unfolding sheet_given
prints p h = rw (eq-eqb (length p) PAGE h)

leaves : (counts p q : List ℕ) (a : Result (Unit {0}) Refusal) → length p ≡ PAGE → SheetOf counts p a q → q ≡ page_of counts
leaves counts p q a h s = s.page ∙ ap (λ (g : Given (Unit {0})). page_after g counts p) (prints p h)

pub same_page : SamePage
same_page v w p p' q q' a a' e h h' s s' = leaves v.counts p q a h s ∙ ap page_of e ∙ sym (leaves w.counts p' q' a' h' s')

-- ---- and the page the counts
-- a count of 32 bits has no more digits than columns
read_count : (counts : List ℕ) (k : ℕ) → k < 12 → get_or counts k 0 < 2 ^ 32 → number_in (columns_at (page_of counts) (2 + k) 70 10) ≡ get_or counts k 0
read_count counts k h low = (reads_back counts).rows k h ∙ mod-eq_of_lt (omega arith)

pub same_counts : SameCounts
same_counts c d low e k h =
    sym (read_count c k h (low k h).0) ∙ ap (λ (page : List ℕ). number_in (columns_at page (2 + k) 70 10)) e ∙ read_count d k h (low k h).1

-- ---- after every list of additions
pub every_sheet : EverySheet
every_sheet ss =
    let w = after empty_window ss in
    let holds = every_list ss in
    let n = length (kept (accepted ss)) in
    let whole : take 12 w.counts ≡ w.counts = take_all 12 w.counts (omega (arith, holds.twelve)) in
    let total : sum (take 12 w.counts) ≡ n = ap sum whole ∙ holds.total ∙ holds.number in
    let fits : n < 10 ^ 10 = omega (arith, holds.most) in
    record {
      rows = λ k h. (reads_back w.counts).rows k h ∙ ap (λ (m : ℕ). m % 10 ^ 10) (holds.counts k h)
          ∙ mod-eq_of_lt (omega (arith, count_most k (kept (accepted ss))));
      all = (reads_back w.counts).all ∙ ap (λ (m : ℕ). m % 10 ^ 10) total ∙ mod-eq_of_lt fits;
    }
