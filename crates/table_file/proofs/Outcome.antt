-- What loading and saving come to, by the tests that lead there. Assumes nothing.
use mathlib.Core.Path.{◌≡◌, sym, subst}
use mathlib.Core.Bool.{true, false, ◌&&◌}
use mathlib.Core.List.{List}
use Prim.Native.Nat.{ℕ}
use lib.Dec.{eqb, eqb→eq}
use lib.Ieee.{Float}
use lib.Ieee.Fits.{and_l}
use lib.ListN.{length, get_or}
use Rattle.answer.specs.Given.{Given, answered, refused, passed}
use Rattle.answer.specs.declared.Refusal.{Refusal}
use Rattle.std.specs.Prelude.{Result}
use Rattle.arithmetic.specs.Arith.{Arith}
use Rattle.origin.specs.Table.{check_table}
use Rattle.table_file.specs.TableFile.{SIZE, headed, table_in, file_of, table_given, file_given, Gives}

pub headed_size : (b : List ℕ) → headed b ≡ true → length b ≡ SIZE
unfolding headed
headed_size b e =
    let rest = eqb (get_or b 0 0) 69 && eqb (get_or b 1 0) 65 && eqb (get_or b 2 0) 84 && eqb (get_or b 3 0) 0 && eqb (get_or b 4 0) 1 in
    eqb→eq (length b) SIZE (and_l (eqb (length b) SIZE) rest (rw e tt))

-- ---- by what is given

pub gives : {X : Type 0} {g h : Given X} (a : Result (Unit {0}) Refusal) (old new : X) → g ≡ h → Gives h a old new → Gives g a old new
gives a old new e r = subst (λ g. Gives g a old new) (sym e) r

module _ (A : Arith) (b : List ℕ) where
  pub no_header : headed b ≡ false → table_given A b ≡ refused 20
  unfolding table_given
  no_header e = rw e

  pub no_table : (n : ℕ) → headed b ≡ true → check_table A (table_in b) ≡ refused n → table_given A b ≡ refused n
  unfolding table_given
  no_table n e f = rw (e, f)

  pub loaded : headed b ≡ true → check_table A (table_in b) ≡ passed → table_given A b ≡ answered (table_in b)
  unfolding table_given
  loaded e f = rw (e, f)

module _ (A : Arith) (table : List Float) (room : ℕ) where
  pub no_room : eqb room SIZE ≡ false → file_given A table room ≡ refused 20
  unfolding file_given
  no_room e = rw e

  pub not_saved : (n : ℕ) → eqb room SIZE ≡ true → check_table A table ≡ refused n → file_given A table room ≡ refused n
  unfolding file_given
  not_saved n e f = rw (e, f)

  pub saved : eqb room SIZE ≡ true → check_table A table ≡ passed → file_given A table room ≡ answered (file_of table)
  unfolding file_given
  saved e f = rw (e, f)
