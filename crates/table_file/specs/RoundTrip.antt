-- What is saved is loaded again, and what is loaded is saved again: the same 84 numbers, bit for bit, and the same 677 bytes. Definitions only.
use Rattle.std.specs.Prelude.{ℕ, ◌<◌, ◌≡◌, List, T, length, get_or, Float}
use Rattle.std.specs.Float.{nan, binary64}
use Rattle.std.specs.Float.Ieee.{fits}
use Rattle.answer.specs.Given.{answered}
use Rattle.arithmetic.specs.Arith.{ieee}
use Rattle.table_file.specs.TableFile.{SIZE, table_given, file_given}

-- A list of doubles: each is a value of the format, written in its one way. So two are equal exactly where their bits are: −0 is not +0.
unfoldable pub Doubles : List Float → Type 0
Doubles xs = (i : ℕ) → i < length xs → T (fits binary64 (get_or xs i nan))

-- a list of bytes
unfoldable pub Bytes : List ℕ → Type 0
Bytes bs = (i : ℕ) → i < length bs → get_or bs i 0 < 256

pub record RoundTrip : Type 0 where
  -- load of what save wrote gives the table back
  pub saved_loads : (table : List Float) (file : List ℕ) → length table ≡ 84 → Doubles table
      → file_given ieee table SIZE ≡ answered file → table_given ieee file ≡ answered table
  -- save of what load read gives the file back
  pub loaded_saves : (file : List ℕ) (table : List Float) → Bytes file
      → table_given ieee file ≡ answered table → file_given ieee table SIZE ≡ answered file
