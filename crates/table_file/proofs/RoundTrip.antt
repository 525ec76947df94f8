-- What is saved is loaded again, and what is loaded is saved again. Assumes nothing.
use mathlib.Core.Path.{◌≡◌, refl, sym, ap, ◌∙◌}
use mathlib.Core.Bool.{Bool, true, false, not, ◌&&◌, and_assoc}
use mathlib.Core.List.{List, [], ◌∷◌, ◌++◌}
use Prim.Native.Nat.{ℕ, zero, suc, ◌*◌, ◌<◌}
use native.Mathlib.Omega.{arith}
use lib.Dec.{eqb}
use lib.ListN.{length, get_or, take, drop, length-append, length-take, length-drop, take-append-drop}
use lib.Seq.{take_at, drop_at}
use lib.Ieee.{Float, nan, inf, fin, is_nan}
use lib.Ieee.Bits.{is_true}
use lib.Ieee.Fits.{eq→eqb}
use Rattle.answer.specs.Given.{answered}
use Rattle.answer.specs.Number.{is_finite}
use Rattle.answer.proofs.Given.{refuse_answered, then_answered}
use Rattle.arithmetic.specs.Arith.{ieee}
use Rattle.answer.specs.BigEndian.{double_in, double_bytes}
use borrow.Author.Tests.{eq-eqb, not-false}
use Rattle.std.proofs.lemmas.Bool.Decides.{Decides-eqb}
use Rattle.std.proofs.lemmas.Slice.Eq.{starts_is}
use Rattle.std.proofs.lemmas.List.Elements.{All-take, All-drop, All-from_get_or}
use Rattle.answer.proofs.Bytes.{length_double, double_back, bytes_back, marked}
use Rattle.answer.proofs.Bytes as held
use Rattle.origin.specs.Table.{check_table, numbers_sound}
use Rattle.origin.proofs.Check.{passed_sound}
use Rattle.origin.proofs.Sizes.{sound_finite}
use Rattle.table_file.specs.TableFile.{SIZE, HEADER, headed, doubles, table_in, bytes_of_all, file_of, table_given, file_given}
use Rattle.table_file.specs.RoundTrip.{Doubles, Bytes, RoundTrip}
use Rattle.table_file.proofs.Outcome.{headed_size, loaded, saved}

-- ---- from a table to its file and back

bytes_count : (xs : List Float) → length (bytes_of_all xs) ≡ 8 * length xs
unfolding bytes_of_all
bytes_count [] = refl
bytes_count (x ∷ xs) = length-append (double_bytes x) (bytes_of_all xs) ∙ (let e = length_double x in let f = bytes_count xs in omega arith)

doubles_back : (xs : List Float) → Doubles xs → doubles (length xs) (bytes_of_all xs) ≡ xs
unfolding doubles bytes_of_all Doubles
doubles_back [] h = refl
doubles_back (x ∷ xs) h =
    let rest = bytes_of_all xs in
    let one = ap double_in (take_at (double_bytes x) rest 8 (length_double x)) ∙ double_back x (h 0 (omega arith)) in
    let more = ap (doubles (length xs)) (drop_at (double_bytes x) rest 8 (length_double x)) ∙ doubles_back xs (λ i l. h (suc i) (omega arith)) in
    λ i. one i ∷ more i

module _ (table : List Float) (rows : length table ≡ 84) where
  file_headed : headed (file_of table) ≡ true
  unfolding headed file_of
  file_headed =
      let size : length (file_of table) ≡ SIZE = let e = bytes_count table in omega arith in
      ap (λ (sized : Bool). sized && true) (is_true (eqb (length (file_of table)) SIZE) (eq→eqb size))

  file_table : Doubles table → table_in (file_of table) ≡ table
  unfolding table_in file_of
  file_table h = ap (λ (n : ℕ). doubles n (bytes_of_all table)) (sym rows) ∙ doubles_back table h

saved_loads : (table : List Float) (file : List ℕ) → length table ≡ 84 → Doubles table
    → file_given ieee table SIZE ≡ answered file → table_given ieee file ≡ answered table
unfolding file_given
saved_loads table file rows h e =
    let t = then_answered (check_table ieee table) (answered (file_of table)) file e in
    let same : file_of table ≡ file = let z = t.1 in cc in
    let back = file_table table rows h in
    ap (table_given ieee) (sym same)
    ∙ loaded ieee (file_of table) (file_headed table rows) (ap (check_table ieee) back ∙ t.0)
    ∙ ap answered back

-- ---- from a file to its table and back

-- no double of the bytes is a NaN
Numbers : ℕ → List ℕ → Type 0
Numbers m b = (i : ℕ) → i < m → is_finite (get_or (doubles m b) i nan) ≡ true

finite_number : (x : Float) → is_finite x ≡ true → is_nan x ≡ false
unfolding is_finite is_nan
finite_number nan e = sym e
finite_number (inf s) e = refl
finite_number (fin s m d) e = refl

bytes_from_doubles : (m : ℕ) (b : List ℕ) → length b ≡ 8 * m → held.Bytes b → Numbers m b → bytes_of_all (doubles m b) ≡ b
unfolding doubles bytes_of_all Numbers
bytes_from_doubles zero [] l r h = refl
bytes_from_doubles zero (x ∷ b) l r h = absurd (omega arith)
bytes_from_doubles (suc m) b l r h =
    let eight : length (take 8 b) ≡ 8 = simp length-take (omega arith) in
    let rest : length (drop 8 b) ≡ 8 * m = simp length-drop (omega arith) in
    let one = bytes_back (take 8 b) (All-take (λ (x : ℕ). x < 256) 8 b r) eight (finite_number (double_in (take 8 b)) (h 0 (omega arith))) in
    let more = bytes_from_doubles m (drop 8 b) rest (All-drop (λ (x : ℕ). x < 256) 8 b r) (λ i k. h (suc i) (omega arith)) in
    (λ i. one i ++ more i) ∙ take-append-drop 8 b

header_first : (b : List ℕ) → headed b ≡ true → HEADER ++ drop 5 b ≡ b
unfolding headed
header_first b e =
    let size = headed_size b e in
    let tests = simp and_assoc at (rw (eq-eqb (length b) SIZE size) at e) in
    let starts = marked b 69 65 84 0 1 (omega arith) ∙ tests in
    sym ((starts_is Decides-eqb b HEADER true (sym starts)).0 refl)

file_back : (file : List ℕ) → held.Bytes file → headed file ≡ true → numbers_sound (table_in file) ≡ true → file_of (table_in file) ≡ file
unfolding table_in file_of Numbers
file_back file bytes head sound =
    let size = headed_size file head in
    let rest : length (drop 5 file) ≡ 8 * 84 = simp length-drop (omega arith) in
    ap (λ (x : List ℕ). HEADER ++ x) (bytes_from_doubles 84 (drop 5 file) rest (All-drop (λ (x : ℕ). x < 256) 5 file bytes)
    (sound_finite (table_in file) sound))
    ∙ header_first file head

loaded_saves : (file : List ℕ) (table : List Float) → Bytes file → table_given ieee file ≡ answered table → file_given ieee table SIZE ≡ answered file
unfolding table_given Bytes
loaded_saves file table h e =
    let r = refuse_answered (not (headed file)) 20 _ table e in
    let t = then_answered (check_table ieee (table_in file)) (answered (table_in file)) table r.1 in
    let same : table_in file ≡ table = let z = t.1 in cc in
    let head = not-false (headed file) r.0 in
    let back = file_back file (All-from_get_or (λ (x : ℕ). x < 256) file 0 h) head (passed_sound ieee (table_in file) t.0) in
    ap (λ (x : List Float). file_given ieee x SIZE) (sym same) ∙ saved ieee (table_in file) SIZE refl t.0 ∙ ap answered back

pub round_trip : RoundTrip
round_trip = record { saved_loads = saved_loads; loaded_saves = loaded_saves }
