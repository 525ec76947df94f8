-- Where the doubles of a file stand, and a file one double longer. Assumes nothing.
use mathlib.Core.Path.{◌≡◌, refl, sym, ap, ◌∙◌}
use mathlib.Core.List.{List, [], ◌∷◌, ◌++◌, append_assoc, append-nil}
use Prim.Native.Nat.{ℕ, zero, suc, ◌+◌, ◌*◌, ◌≤◌, ◌<◌}
use native.Mathlib.Numerals.{add-one}
use native.Mathlib.Omega.{arith}
use lib.ListN.{length, get_or, take, drop, length-append}
use lib.Seq.{drop-drop, take_at, take-suc, length-take-le}
use lib.Ieee.{Float, nan}
use Rattle.answer.specs.BigEndian.{double_in, double_bytes}
use Rattle.answer.proofs.Bytes.{length_double}
use Rattle.table_file.specs.TableFile.{HEADER, doubles, table_in, bytes_of_all}

-- ---- reading

pub count : (m : ℕ) (b : List ℕ) → length (doubles m b) ≡ m
unfolding doubles
count zero b = refl
count (suc m) b = ap suc (count m (drop 8 b))

double_at : (m : ℕ) (b : List ℕ) (i : ℕ) → i < m → get_or (doubles m b) i nan ≡ double_in (take 8 (drop (8 * i) b))
unfolding doubles
double_at zero b i h = absurd (omega arith)
double_at (suc m) b zero h = refl
double_at (suc m) b (suc i) h =
    let e : 8 + 8 * i ≡ 8 * suc i = omega arith in
    double_at m (drop 8 b) i (omega arith) ∙ ap (λ (l : List ℕ). double_in (take 8 l)) (drop-drop (8 * i) 8 b ∙ ap (λ (n : ℕ). drop n b) e)

pub number_at : (b : List ℕ) (i : ℕ) → i < 84 → get_or (table_in b) i nan ≡ double_in (take 8 (drop (5 + 8 * i) b))
unfolding table_in
number_at b i h = double_at 84 (drop 5 b) i h ∙ ap (λ (l : List ℕ). double_in (take 8 l)) (drop-drop (8 * i) 5 b)

pub table_count : (b : List ℕ) → length (table_in b) ≡ 84
unfolding table_in
table_count b = count 84 (drop 5 b)

-- ---- writing

pub all_joined : (xs ys : List Float) → bytes_of_all (xs ++ ys) ≡ bytes_of_all xs ++ bytes_of_all ys
unfolding bytes_of_all
all_joined [] ys = refl
all_joined (x ∷ xs) ys = ap (λ (l : List ℕ). double_bytes x ++ l) (all_joined xs ys) ∙ sym (append_assoc (double_bytes x) (bytes_of_all xs) (bytes_of_all ys))

-- one double further: the bytes up to it, it, and what is behind
pub written_on : (table : List Float) (bytes rest : List ℕ) (i at : ℕ) → i < length table → at ≡ 5 + 8 * i → at ≤ length bytes
    → take at bytes ≡ HEADER ++ bytes_of_all (take i table)
    → take (5 + 8 * (i + 1)) (take at bytes ++ double_bytes (get_or table i nan) ++ rest) ≡ HEADER ++ bytes_of_all (take (i + 1) table)
unfolding bytes_of_all
written_on table bytes rest i at h p l e =
    let x = get_or table i nan in
    let eight = length_double x in
    let before = length-take-le at bytes l in
    let n : length (take at bytes ++ double_bytes x) ≡ 5 + 8 * (i + 1) = length-append (take at bytes) (double_bytes x) ∙ omega (arith, p) in
    take_at (take at bytes ++ double_bytes x) rest (5 + 8 * (i + 1)) n
    ∙ ap (λ (f : List ℕ). f ++ double_bytes x) e
    ∙ append_assoc HEADER (bytes_of_all (take i table)) (double_bytes x)
    ∙ ap (λ (f : List ℕ). HEADER ++ f)
    (ap (λ (f : List ℕ). bytes_of_all (take i table) ++ f) (sym (append-nil (double_bytes x)))
    ∙ sym (all_joined (take i table) (x ∷ []))
    ∙ ap bytes_of_all (sym (take-suc table i nan h) ∙ ap (λ (j : ℕ). take j table) (sym (add-one i))))
