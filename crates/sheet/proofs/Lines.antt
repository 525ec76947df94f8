-- The lines of a page: what stands in each, and how long they are. Assumes nothing.
use mathlib.Core.Path.{◌≡◌, refl, sym, ap, ◌∙◌}
use mathlib.Core.Bool.{Bool, true, false}
use mathlib.Core.List.{List, [], ◌∷◌, ◌++◌, append-nil, append_assoc, flatten}
use Prim.Native.Nat.{ℕ, zero, suc, ◌+◌, ◌*◌, ◌-◌, ◌≤◌, ◌<◌}
use native.Mathlib.Omega.{arith}
use native.Mathlib.Nat.{add-zero, zero-add}
use borrow.Author.Tests.{ltb-true, ltb-false}
use borrow.Rule.Slice.PartMut.{mid_of, post_of, put_mid}
use lib.Dec.{ltb}
use lib.ListN.{length, get_or, take, drop, length-append, length-drop, drop_of_length-le, replicate, length-replicate, get_or-replicate, replicate-append-replicate}
use lib.Seq.{length-take-le, take_at, drop_at, take-suc, take_all, get_or-drop, drop-drop}
use Rattle.decimal.specs.Decimal.{decimal}
use Rattle.window.specs.EveryList.{sum}
use Rattle.sheet.specs.Page.{NEWLINE, SPACE, TITLE, ALL, spaces, line, right_aligned, numbered, row, blank, lines_of, page_of}
use Rattle.decimal.proofs.Columns.{length_aligned}

-- ---- a text written into a blank line from column 1 on, and ten bytes in columns 71 to 80
pub filled : (left right : List ℕ) → length left ≤ 70 → length right ≡ 10 → put_mid 70 10 (left ++ drop (length left) blank) right ≡ line left right
unfolding line
filled left right h e =
    let k = length left in
    let front = left ++ spaces (70 - k) in
    let end = spaces 10 ++ (NEWLINE ∷ []) in
    let long : length front ≡ 70 = length-append left (spaces (70 - k)) ∙ omega (arith, length-replicate (70 - k) SPACE) in
    let all : 70 ≡ k + (70 - k) = omega arith in
    let parts : blank ≡ spaces k ++ (spaces (70 - k) ++ end) =
    ap (λ (n : ℕ). spaces n ++ end) all ∙ ap (λ (l : List ℕ). l ++ end) (sym (replicate-append-replicate k (70 - k) SPACE))
    ∙ append_assoc (spaces k) (spaces (70 - k)) end in
    let written : left ++ drop k blank ≡ front ++ end =
    ap (λ (l : List ℕ). left ++ drop k l) parts
    ∙ ap (λ (l : List ℕ). left ++ l) (drop_at (spaces k) (spaces (70 - k) ++ end) k (length-replicate k SPACE))
    ∙ sym (append_assoc left (spaces (70 - k)) end) in
    let gap : 80 - (k + 10) ≡ 70 - k = omega arith in
    rw (written, take_at front end 70 long, drop_at front end 70 long, e, gap) (append_assoc left (spaces (70 - k)) (right ++ (NEWLINE ∷ [])))

-- the same, where the number's columns are a part of the line that is lent
pub with_number : (left l right : List ℕ) (n : ℕ) → length left ≤ 70 → l ≡ left ++ drop (length left) blank
    → right ≡ right_aligned (length (mid_of 70 10 l)) (decimal n) → put_mid 70 10 l right ≡ numbered left n
unfolding line
with_number left l right n h e p =
    let k = length left in
    let long : length l ≡ 81 = ap length e ∙ length-append left (drop k blank) ∙ omega (arith, length-drop k blank) in
    let ten : length (mid_of 70 10 l) ≡ 10 = length-take-le 10 (drop 70 l) (omega (arith, length-drop 70 l)) in
    let number : right ≡ right_aligned 10 (decimal n) = p ∙ ap (λ (w : ℕ). right_aligned w (decimal n)) ten in
    rw (e, number) (filled left (right_aligned 10 (decimal n)) h (length_aligned 10 (decimal n)))

-- an origin's number, written in columns 1 to 2 of a blank line
pub with_origin : (l text : List ℕ) (n : ℕ) → l ≡ blank → text ≡ right_aligned (length (mid_of 0 2 l)) (decimal n)
    → text ++ post_of 0 2 l ≡ right_aligned 2 (decimal n) ++ drop (length (right_aligned 2 (decimal n))) blank
unfolding line
with_origin l text n e p =
    let left = right_aligned 2 (decimal n) in
    let number : text ≡ left = p ∙ ap (λ (t : List ℕ). right_aligned (length (mid_of 0 2 t)) (decimal n)) e in
    rw (number, e) (ap (λ (k : ℕ). left ++ drop k blank) (sym (length_aligned 2 (decimal n))))

-- ---- the line at a place
module _ (counts : List ℕ) where
  -- n rows from origin k on
  unfoldable rows_from : ℕ → ℕ → List (List ℕ)
  rows_from zero k = []
  rows_from (suc n) k = row counts k ∷ rows_from n (suc k)

  among_rows : (n k i : ℕ) (rest : List (List ℕ)) → i < n → get_or (rows_from n k ++ rest) i [] ≡ row counts (k + i)
  unfolding rows_from
  among_rows zero k i rest h = absurd (omega arith)
  among_rows (suc n) k zero rest h = ap (row counts) (sym (add-zero k))
  among_rows (suc n) k (suc i) rest h = among_rows n (suc k) i rest (omega arith) ∙ ap (row counts) (omega arith)

  pub row_at : (k : ℕ) → k < 12 → get_or (lines_of counts) (2 + k) [] ≡ row counts k
  unfolding lines_of rows_from
  row_at k h =
      let after = numbered ALL (sum (take 12 counts)) ∷ replicate 45 blank in
      sym (get_or-drop 2 (lines_of counts) k []) ∙ among_rows 12 0 k after h ∙ ap (row counts) (zero-add k)

  pub blank_at : (j : ℕ) → j < 45 → get_or (lines_of counts) (15 + j) [] ≡ blank
  unfolding lines_of
  blank_at j h = sym (get_or-drop 15 (lines_of counts) j []) ∙ get_or-replicate 45 j blank [] h

  pub sixty : length (lines_of counts) ≡ 60
  unfolding lines_of
  sixty = refl

  -- what holds of the title, the blank line, each row and the line of the sum holds of the line at each place
  pub each_line : (P : List ℕ → Type 0) → P (line TITLE []) → P blank → ((k : ℕ) → k < 12 → P (row counts k)) → P (numbered ALL (sum (take 12 counts)))
      → (p : ℕ) → p < 60 → P (get_or (lines_of counts) p [])
  unfolding lines_of
  each_line P title empty rows all zero h = title
  each_line P title empty rows all (suc zero) h = empty
  each_line P title empty rows all (suc (suc k)) h = by (ltb k 12) refl (ltb k 13) refl
    where
      place : (i j : ℕ) → i ≡ j → P (get_or (lines_of counts) j []) → P (get_or (lines_of counts) i [])
      place i j e x = rw e x

      by : (b : Bool) → ltb k 12 ≡ b → (c : Bool) → ltb k 13 ≡ c → P (get_or (lines_of counts) (suc (suc k)) [])
      by true e c f = place (suc (suc k)) (2 + k) (omega arith) (rw (row_at k (ltb-true k 12 e)) (rows k (ltb-true k 12 e)))
      by false e true f = place (suc (suc k)) 14 (omega (arith, ltb-false k 12 e, ltb-true k 13 f)) all
      by false e false f = let t = ltb-false k 13 f in place (suc (suc k)) (15 + (k - 13)) (omega arith) (rw (blank_at (k - 13) (omega arith)) empty)

-- ---- lengths
pub length_line : (left right : List ℕ) → length left + length right ≤ 80 → length (line left right) ≡ 81
unfolding line
length_line left right h =
    let n = 80 - (length left + length right) in
    simp length-append (omega (arith, length-replicate n SPACE))

pub length_numbered : (left : List ℕ) (n : ℕ) → length left ≤ 70 → length (numbered left n) ≡ 81
length_numbered left n h = length_line left (right_aligned 10 (decimal n)) (omega (arith, length_aligned 10 (decimal n)))

module _ (counts : List ℕ) where
  pub lines_long : (p : ℕ) → p < 60 → length (get_or (lines_of counts) p []) ≡ 81
  lines_long =
      each_line counts (λ (l : List ℕ). length l ≡ 81) (length_line TITLE [] (omega arith)) (length_line [] [] (omega arith))
      (λ k h. length_numbered (right_aligned 2 (decimal k)) (get_or counts k 0) (omega (arith, length_aligned 2 (decimal k))))
      (length_numbered ALL (sum (take 12 counts)) (omega arith))

  -- the first lines, one more and how long they are
  pub line_more : (p : ℕ) → p < 60 → flatten (take (suc p) (lines_of counts)) ≡ flatten (take p (lines_of counts)) ++ get_or (lines_of counts) p []
  unfolding flatten
  line_more p h =
      ap flatten (take-suc (lines_of counts) p [] (omega (arith, sixty counts))) ∙ join_one (take p (lines_of counts)) (get_or (lines_of counts) p [])
    where
      join_one : (ls : List (List ℕ)) (l : List ℕ) → flatten (ls ++ (l ∷ [])) ≡ flatten ls ++ l
      join_one [] l = append-nil l
      join_one (x ∷ ls) l = ap (λ (t : List ℕ). x ++ t) (join_one ls l) ∙ sym (append_assoc x (flatten ls) l)

  pub first_long : (p : ℕ) → p ≤ 60 → length (flatten (take p (lines_of counts))) ≡ p * 81
  unfolding flatten
  first_long zero h = refl
  first_long (suc p) h =
      ap length (line_more p (omega arith)) ∙ length-append (flatten (take p (lines_of counts))) (get_or (lines_of counts) p [])
      ∙ omega (arith, first_long p (omega arith), lines_long p (omega arith))

  -- all sixty are the page
  pub all_lines : flatten (take 60 (lines_of counts)) ≡ page_of counts
  unfolding page_of
  all_lines = ap flatten (take_all 60 (lines_of counts) (omega (arith, sixty counts)))

  -- ---- a page of which the first p lines stand, and what follows them is as it was
  module _ (old : List ℕ) (p : ℕ) where
    abbrev pub up_to : List ℕ
    up_to = flatten (take p (lines_of counts)) ++ drop (p * 81) old

    pub up_to_long : p ≤ 60 → length old ≡ 4860 → length up_to ≡ 4860
    up_to_long h e =
        length-append (flatten (take p (lines_of counts))) (drop (p * 81) old) ∙ omega (arith, first_long p h, length-drop (p * 81) old)

  pub one_line_more : (old now l : List ℕ) (p n q : ℕ) → p < 60 → n ≡ 81 → q ≡ suc p → now ≡ up_to old p → l ≡ get_or (lines_of counts) p []
      → put_mid (p * 81) n now l ≡ up_to old q
  one_line_more old now l p n q h s t e d =
      let front = flatten (take p (lines_of counts)) in
      let behind = drop (p * 81) old in
      let long = first_long p (omega arith) in
      let line = get_or (lines_of counts) p [] in
      let next : p * 81 + 81 ≡ suc p * 81 = omega arith in
      rw (e, d, s, t, take_at front behind (p * 81) long, drop_at front behind (p * 81) long, drop-drop 81 (p * 81) old, next, line_more p h)
      (sym (append_assoc front line (drop (suc p * 81) old)))

  pub all_lines_stand : (old now : List ℕ) (p : ℕ) → p ≡ 60 → length old ≡ 4860 → now ≡ up_to old p → now ≡ page_of counts
  all_lines_stand old now p s long e =
      e ∙ ap (up_to old) s ∙ ap (λ (l : List ℕ). flatten (take 60 (lines_of counts)) ++ l) (drop_of_length-le old {i = 4860} (omega arith))
      ∙ append-nil (flatten (take 60 (lines_of counts))) ∙ all_lines
