-- What stands at a place of a page: that of its line, which is a text of 80 printable bytes and a newline. Assumes nothing.
use mathlib.Core.Path.{◌≡◌, refl, sym, ap, ◌∙◌}
use mathlib.Core.List.{List, [], ◌∷◌, ◌++◌, append_assoc, flatten}
use Prim.Native.Nat.{ℕ, zero, suc, ◌+◌, ◌*◌, ◌-◌, ◌≤◌, ◌<◌}
use native.Mathlib.Omega.{arith}
use lib.ListN.{length, get_or, take, drop, length-append, length-drop, length-replicate, take-append-drop, get_or-append}
use lib.Seq.{take_at, drop_at, get_or_at, get_or-drop, drop-cons, drop-drop, drop-append-le, take-append-le}
use Rattle.decimal.specs.Decimal.{digit, decimal}
use Rattle.decimal.proofs.Digits.{by_digits}
use Rattle.sheet.specs.Page.{SPACE, NEWLINE, spaces, line, right_aligned, numbered, lines_of, page_of}
use Rattle.sheet.specs.Claims.{columns_at}
use Rattle.decimal.proofs.Columns.{length_aligned}
use Rattle.sheet.proofs.Lines.{sixty, lines_long, first_long}

-- ---- texts with no newline
abbrev pub Printable : List ℕ → Type 0
Printable [] = Unit {0}
Printable (c ∷ s) = (SPACE ≤ c) × Printable s

both_print : (s t : List ℕ) → Printable s → Printable t → Printable (s ++ t)
both_print [] t p q = q
both_print (c ∷ s) t p q = (p.0, both_print s t p.1 q)

spaces_print : (n : ℕ) → Printable (spaces n)
spaces_print zero = tt
spaces_print (suc n) = (omega arith, spaces_print n)

drop_prints : (n : ℕ) (s : List ℕ) → Printable s → Printable (drop n s)
drop_prints zero s p = p
drop_prints (suc n) [] p = tt
drop_prints (suc n) (c ∷ s) p = drop_prints n s p.1

prints_at : (s : List ℕ) (i : ℕ) → i < length s → Printable s → SPACE ≤ get_or s i 0
prints_at [] i h p = absurd (omega arith)
prints_at (c ∷ s) zero h p = p.0
prints_at (c ∷ s) (suc i) h p = prints_at s i (omega arith) p.1

pub number_prints : (w n : ℕ) → Printable (right_aligned w (decimal n))
unfolding right_aligned
number_prints w n =
    let text = decimal n in
    both_print (spaces (w - length text)) (drop (length text - w) text) (spaces_print (w - length text))
    (drop_prints (length text - w) text (by_digits Printable tt (λ s d h p. both_print s (digit d ∷ []) p (omega arith, tt)) n))

-- ---- a line is 80 columns that print, and a newline
pub record Columns (l : List ℕ) : Type 0 where
  pub text : List ℕ
  pub is : l ≡ text ++ (NEWLINE ∷ [])
  pub eighty : length text ≡ 80
  pub prints : Printable text

pub line_columns : (left right : List ℕ) → length left + length right ≤ 80 → Printable left → Printable right → Columns (line left right)
unfolding line
line_columns left right h p q =
    let n = 80 - (length left + length right) in
    record {
      text = left ++ (spaces n ++ right);
      is = sym (append_assoc left (spaces n ++ right) (NEWLINE ∷ []) ∙ ap (λ (t : List ℕ). left ++ t) (append_assoc (spaces n) right (NEWLINE ∷ [])));
      eighty = simp length-append (omega (arith, length-replicate n SPACE));
      prints = both_print left (spaces n ++ right) p (both_print (spaces n) right (spaces_print n) q);
    }

pub numbered_columns : (left : List ℕ) (n : ℕ) → length left ≤ 70 → Printable left → Columns (numbered left n)
numbered_columns left n h p =
    line_columns left (right_aligned 10 (decimal n)) (omega (arith, length_aligned 10 (decimal n))) p (number_prints 10 n)

pub newline_of : (l : List ℕ) → Columns l → get_or l 80 0 ≡ NEWLINE
newline_of l c = ap (λ (t : List ℕ). get_or t 80 0) c.is ∙ get_or_at c.text NEWLINE [] 0 80 c.eighty

pub column_of : (l : List ℕ) (i : ℕ) → i < 80 → Columns l → SPACE ≤ get_or l i 0
column_of l i h c =
    let at = ap (λ (t : List ℕ). get_or t i 0) c.is ∙ get_or-append c.text (NEWLINE ∷ []) 0 i (omega (arith, c.eighty)) in
    rw at (prints_at c.text i (omega (arith, c.eighty)) c.prints)

-- ---- the number in a line's columns 71 to 80, and what stands in columns 1 to 2
pub number_of : (left : List ℕ) (n : ℕ) → length left ≤ 70 → take 10 (drop 70 (numbered left n)) ≡ right_aligned 10 (decimal n)
unfolding line
number_of left n h =
    let right = right_aligned 10 (decimal n) in
    let k = length left in
    let gap : 80 - (k + length right) ≡ 70 - k = omega (arith, length_aligned 10 (decimal n)) in
    let front = left ++ spaces (70 - k) in
    let end = right ++ (NEWLINE ∷ []) in
    let long : length front ≡ 70 = length-append left (spaces (70 - k)) ∙ omega (arith, length-replicate (70 - k) SPACE) in
    let apart = ap (λ (m : ℕ). left ++ (spaces m ++ end)) gap ∙ sym (append_assoc left (spaces (70 - k)) end) in
    ap (λ (l : List ℕ). take 10 (drop 70 l)) apart ∙ ap (take 10) (drop_at front end 70 long) ∙ take_at right (NEWLINE ∷ []) 10 (length_aligned 10 (decimal n))

pub left_of : (left right : List ℕ) → take (length left) (line left right) ≡ left
unfolding line
left_of left right = take_at left _ (length left) refl

flatten_both : (a b : List (List ℕ)) → flatten (a ++ b) ≡ flatten a ++ flatten b
unfolding flatten
flatten_both [] b = refl
flatten_both (x ∷ a) b = ap (λ (t : List ℕ). x ++ t) (flatten_both a b) ∙ sym (append_assoc x (flatten a) (flatten b))

-- ---- in a page
module _ (counts : List ℕ) (l : ℕ) (low : l < 60) where
  abbrev here : List ℕ
  here = get_or (lines_of counts) l []

  abbrev behind : List ℕ
  behind = flatten (drop (suc l) (lines_of counts))

  -- a page from a line on
  from_line : drop (l * 81) (page_of counts) ≡ here ++ behind
  unfolding page_of flatten
  from_line =
      let ls = lines_of counts in
      let parts = sym (take-append-drop l ls) ∙ ap (λ (r : List (List ℕ)). take l ls ++ r) (drop-cons ls l [] (omega (arith, sixty counts))) in
      ap (λ (r : List (List ℕ)). drop (l * 81) (flatten r)) parts
      ∙ ap (drop (l * 81)) (flatten_both (take l ls) (here ∷ drop (suc l) ls))
      ∙ drop_at (flatten (take l ls)) (here ++ behind) (l * 81) (first_long counts l (omega arith))

  pub byte_in : (c : ℕ) → c < 81 → get_or (page_of counts) (l * 81 + c) 0 ≡ get_or here c 0
  byte_in c h =
      sym (get_or-drop (l * 81) (page_of counts) c 0) ∙ ap (λ (t : List ℕ). get_or t c 0) from_line
      ∙ get_or-append here behind 0 c (omega (arith, lines_long counts l low))

  pub columns_in : (c n : ℕ) → c + n ≤ 81 → columns_at (page_of counts) l c n ≡ take n (drop c here)
  columns_in c n h =
      let long = lines_long counts l low in
      ap (take n) (sym (drop-drop c (l * 81) (page_of counts)) ∙ ap (drop c) from_line ∙ drop-append-le c here behind (omega arith))
      ∙ take-append-le n (drop c here) behind (omega (arith, length-drop c here))
