-- Paper 10's table file: "\"EAT\", 16-bit version 1 and twelve rows of seven doubles, all big-endian and in final origin order. .. The file is 677
-- bytes." What loading and saving give, and what they leave. Definitions only.
use Rattle.std.specs.Prelude.{ℕ, zero, suc, ◌≡◌, Bool, not, ◌&&◌, List, [], ◌∷◌, ◌++◌, eqb, length, get_or, take, drop, Float, Result}
use Rattle.answer.specs.Given.{Given, answered, refused, passed, refuse_if, and_then}
use Rattle.answer.specs.Answer.{given}
use Rattle.answer.specs.declared.Refusal.{Refusal}
use Rattle.arithmetic.specs.Arith.{Arith}
use Rattle.answer.specs.BigEndian.{double_in, double_bytes}
use Rattle.origin.specs.Table.{check_table}

-- the mark, the version and 84 doubles
abbrev pub SIZE : ℕ
SIZE = 677

-- "EAT", and the 16-bit version 1, the high byte first
abbrev pub HEADER : List ℕ
HEADER = 69 ∷ 65 ∷ 84 ∷ 0 ∷ 1 ∷ []

-- the length, the mark and the version are right
unfoldable pub headed : List ℕ → Bool
headed b =
    eqb (length b) SIZE
    && (eqb (get_or b 0 0) 69 && eqb (get_or b 1 0) 65 && eqb (get_or b 2 0) 84 && eqb (get_or b 3 0) 0 && eqb (get_or b 4 0) 1)

-- the first m doubles of some bytes
unfoldable pub doubles : ℕ → List ℕ → List Float
doubles zero b = []
doubles (suc m) b = double_in (take 8 b) ∷ doubles m (drop 8 b)

-- the 84 numbers of a file
unfoldable pub table_in : List ℕ → List Float
table_in b = doubles 84 (drop 5 b)

-- a table's doubles as bytes, one after the other, and with the header the whole file
unfoldable pub bytes_of_all : List Float → List ℕ
bytes_of_all [] = []
bytes_of_all (x ∷ xs) = double_bytes x ++ bytes_of_all xs

unfoldable pub file_of : List Float → List ℕ
file_of table = HEADER ++ bytes_of_all table

module _ (A : Arith) where
  -- "Refusal 20: wrong length, mark or version. Refusal 21 .. Refusal 22 .. They are tried in that order on loading"
  unfoldable pub table_given : List ℕ → Given (List Float)
  table_given b =
      refuse_if (not (headed b)) 20
      (and_then (check_table A (table_in b))
      (answered (table_in b)))

  -- saving, in room for so many bytes: 20 where it isn't the file's length, and 21 and 22 for a table that loading would refuse
  unfoldable pub file_given : List Float → ℕ → Given (List ℕ)
  file_given table room =
      refuse_if (not (eqb room SIZE)) 20
      (and_then (check_table A table)
      (answered (file_of table)))

-- ---- what a call tells, and what it leaves of what was lent

-- whether there is an answer, without it
abbrev pub told : {X : Type 0} → Given X → Given (Unit {0})
told (answered x) = passed
told (refused n) = refused n

-- the answer; of a refused call what was there
abbrev pub leaves : {X : Type 0} → Given X → X → X
leaves (answered x) old = x
leaves (refused n) old = old

-- a call that gives g returns a, and turns what was lent from old into new
pub record Gives {X : Type 0} (g : Given X) (a : Result (Unit {0}) Refusal) (old new : X) : Type 0 where
  pub answer : given a ≡ told g
  pub left : new ≡ leaves g old
