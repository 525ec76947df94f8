-- A number right-aligned in some columns, from its last digit to the left: what `write_number` leaves. Assumes nothing.
use mathlib.Core.Path.{◌≡◌, refl, sym, ap, ◌∙◌}
use mathlib.Core.Bool.{cond}
use mathlib.Core.List.{List, [], ◌∷◌, ◌++◌, append-nil, append_assoc}
use Prim.Native.Nat.{ℕ, zero, suc, ◌+◌, ◌-◌, ◌*◌, ◌/◌, ◌%◌, ◌^◌, ◌<◌}
use native.Mathlib.Omega.{arith}
use native.Mathlib.Numerals.{add-one}
use native.Mathlib.Nat.{mod-lt, mod-eq_of_lt, add-mul-mod_self_left, div-add-mod, mul_assoc, mul_comm, mod-one, pow-suc}
use borrow.Author.Tests.{ne_eqb}
use lib.Dec.{eqb}
use lib.ListN.{length, take, drop, set, length-append, length-drop, length-replicate, replicate-append-replicate}
use lib.Seq.{drop-nil, drop-length, drop-append-le, set_split, drop_at, length-take-le}
use Rattle.decimal.specs.Decimal.{digit, digits_within, decimal, worth, read_on, number_in}
use Rattle.decimal.proofs.Digits.{within, more, read_append}
use Rattle.decimal.specs.Bytes.{SPACE}
use Rattle.decimal.specs.Columns.{spaces, right_aligned}

-- the last w columns of what is left of a number
abbrev pub column_of : ℕ → ℕ
column_of r = cond (eqb r 0) SPACE (digit (r % 10))

unfoldable pub columns_of : ℕ → ℕ → List ℕ
columns_of zero r = []
columns_of (suc w) r = columns_of w (r / 10) ++ (column_of r ∷ [])

-- what stands from a place on that was stored
pub drop_stored : (l : List ℕ) (j v : ℕ) → j < length l → drop j (set l j v) ≡ v ∷ drop (suc j) l
drop_stored l j v h = ap (drop j) (set_split l j v h) ∙ drop_at (take j l) (v ∷ drop (suc j) l) j (length-take-le j l (omega arith))

-- one byte more on the right, in one column more
aligned_more : (w : ℕ) (s : List ℕ) (c : ℕ) → right_aligned (suc w) (s ++ (c ∷ [])) ≡ right_aligned w s ++ (c ∷ [])
unfolding right_aligned
aligned_more w s c =
    let k = length s in
    let len : length (s ++ (c ∷ [])) ≡ suc k = length-append s (c ∷ []) ∙ add-one k in
    let gap : suc w - suc k ≡ w - k = omega arith in
    let over : suc k - suc w ≡ k - w = omega arith in
    rw (len, gap, over, drop-append-le (k - w) s (c ∷ []) (omega arith)) (sym (append_assoc (spaces (w - k)) (drop (k - w) s) (c ∷ [])))

aligned_none : (w : ℕ) → right_aligned w [] ≡ spaces w
unfolding right_aligned
aligned_none w =
    let all : w - 0 ≡ w = omega arith in
    rw all (ap (λ (l : List ℕ). spaces w ++ l) (drop-nil (0 - w)) ∙ append-nil (spaces w))

no_columns : (s : List ℕ) → right_aligned 0 s ≡ []
unfolding right_aligned
no_columns s =
    let none : 0 - length s ≡ 0 = omega arith in
    let all : length s - 0 ≡ length s = omega arith in
    rw (none, all) (drop-length s)

-- a text as long as the columns are many stands there as it is
pub aligned_whole : (w : ℕ) (s : List ℕ) → length s ≡ w → right_aligned w s ≡ s
unfolding right_aligned
aligned_whole w s e =
    let none : w - length s ≡ 0 = omega (arith, e) in
    let all : length s - w ≡ 0 = omega (arith, e) in
    rw (none, all) refl

pub one_space : (w : ℕ) → spaces w ++ (SPACE ∷ []) ≡ spaces (suc w)
one_space w = replicate-append-replicate w 1 SPACE ∙ ap spaces (add-one w)

column_digit : (r : ℕ) → 0 < r → column_of r ≡ digit (r % 10)
column_digit r h = rw (ne_eqb r 0 (λ e. omega arith))

-- so they are the digits that are left, right-aligned
columns_aligned : (w r : ℕ) → columns_of w r ≡ right_aligned w (digits_within r r)
unfolding columns_of digits_within
columns_aligned zero r = sym (no_columns (digits_within r r))
columns_aligned (suc w) zero =
    ap (λ (l : List ℕ). l ++ (SPACE ∷ [])) (columns_aligned w 0 ∙ aligned_none w) ∙ one_space w ∙ sym (aligned_none (suc w))
columns_aligned (suc w) (suc r) =
    let n = suc r in
    let m = suc r / 10 in
    let d = digit (suc r % 10) in
    ap (λ (c : ℕ). columns_of w m ++ (c ∷ [])) (column_digit n (omega arith))
    ∙ ap (λ (l : List ℕ). l ++ (d ∷ [])) (columns_aligned w m)
    ∙ sym (aligned_more w (digits_within m m) d)
    ∙ ap (λ (l : List ℕ). right_aligned (suc w) (l ++ (d ∷ []))) (within m r m (omega arith) (omega arith))
    ∙ ap (right_aligned (suc w)) (sym (more r n (omega arith)))

-- a number's last digit, and the columns before it
pub number_aligned : (w n : ℕ) → columns_of w (n / 10) ++ (digit (n % 10) ∷ []) ≡ right_aligned (suc w) (decimal n)
unfolding decimal
number_aligned w n =
    let m = n / 10 in
    let d = digit (n % 10) in
    ap (λ (l : List ℕ). l ++ (d ∷ [])) (columns_aligned w m ∙ ap (right_aligned w) (within m n m (omega arith) (omega arith)))
    ∙ sym (aligned_more w (digits_within n m) d)

-- one column more to the left
pub column_more : (i j r v : ℕ) (l all : List ℕ) → i ≡ suc j → j < length l → v ≡ column_of r → columns_of i r ++ drop i l ≡ all
    → columns_of j (r / 10) ++ drop j (set l j v) ≡ all
unfolding columns_of
column_more i j r v l all s h p e =
    rw (drop_stored l j v h, p, ← append_assoc (columns_of j (r / 10)) (column_of r ∷ []) (drop (suc j) l)) (rw s at e)

-- ---- how wide it is
pub length_aligned : (w : ℕ) (s : List ℕ) → length (right_aligned w s) ≡ w
unfolding right_aligned
length_aligned w s =
    length-append (spaces (w - length s)) (drop (length s - w) s)
    ∙ omega (arith, length-replicate (w - length s) SPACE, length-drop (length s - w) s)

-- ---- read back: the number, as far as the columns go
last_column : (m r : ℕ) → 0 < m → r / 10 % m * 10 + r % 10 ≡ r % (m * 10)
last_column m r h =
    let q = r / 10 in
    let x = q % m * 10 + r % 10 in
    let below : x < m * 10 = omega (arith, mod-lt q h) in
    let turned = mul_assoc m 10 (q / m) ∙ ap (λ (k : ℕ). m * k) (mul_comm 10 (q / m)) ∙ sym (mul_assoc m (q / m) 10) in
    let whole : r ≡ x + m * 10 * (q / m) = omega (arith, turned, div-add-mod q m) in
    sym (mod-eq_of_lt below) ∙ sym (add-mul-mod_self_left x (m * 10) (q / m)) ∙ ap (λ (k : ℕ). k % (m * 10)) (sym whole)

ten_pow : (w : ℕ) → 0 < 10 ^ w
ten_pow zero = omega arith
ten_pow (suc w) = omega (arith, ten_pow w)

worth_column : (r : ℕ) → worth (column_of r) ≡ r % 10
worth_column zero = refl
worth_column (suc r) = ap worth (column_digit (suc r) (omega arith)) ∙ omega arith

reads_more : (m r c : ℕ) (s : List ℕ) → 0 < m → number_in s ≡ r / 10 % m → worth c ≡ r % 10 → number_in (s ++ (c ∷ [])) ≡ r % (m * 10)
unfolding read_on
reads_more m r c s h e p =
    read_append 0 s (c ∷ []) ∙ ap (λ (a : ℕ). a * 10 + worth c) e ∙ ap (λ (d : ℕ). r / 10 % m * 10 + d) p ∙ last_column m r h

reads_columns : (w r : ℕ) → number_in (columns_of w r) ≡ r % 10 ^ w
unfolding columns_of read_on
reads_columns zero r = sym (mod-one r)
reads_columns (suc w) r =
    reads_more (10 ^ w) r (column_of r) (columns_of w (r / 10)) (ten_pow w) (reads_columns w (r / 10)) (worth_column r)
    ∙ ap (λ (m : ℕ). r % m) (sym (pow-suc 10 w))

-- "a number's digits read back are the number": of one that is too long the last digits
pub reads_aligned : (w n : ℕ) → number_in (right_aligned (suc w) (decimal n)) ≡ n % 10 ^ suc w
reads_aligned w n =
    ap number_in (sym (number_aligned w n))
    ∙ reads_more (10 ^ w) n (digit (n % 10)) (columns_of w (n / 10)) (ten_pow w) (reads_columns w (n / 10)) (omega arith)
    ∙ ap (λ (m : ℕ). n % m) (sym (pow-suc 10 w))
