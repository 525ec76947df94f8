-- Paper 9: "A server that boots unattended has nobody to read a refusal." The strike program opens its set by itself,
-- and its records carry place and unplace. Definitions only.
use Rattle.std.specs.Prelude.{ℕ, zero, suc, ◌≡◌, List, take, drop}
use Rattle.arithmetic.specs.Arith.{ieee}
use Rattle.origin.specs.Origins.{ORIGINS}
use Rattle.set.specs.Set.{Set}
use Rattle.histories.specs.EveryList.{opened}
use Rattle.strike_records.specs.Reply.{reply}
use Rattle.strike_session.specs.Session.{session, program}
use Rattle.opening.specs.Opening.{RightLengths, Without8}

-- the set after n records of some bytes
unfoldable pub set_after : ℕ → Set → List ℕ → Set
set_after zero s bytes = s
set_after (suc n) s bytes = set_after n (reply ieee ORIGINS s (take 10 bytes)).set (drop 10 bytes)

-- whatever its buffers hold and whatever is read
pub record SessionWithout7Or8 (b : Set) (bytes : List ℕ) : Type 0 where
  -- it begins its session: its one line is never the number that open was refused with
  pub begins : program ieee ORIGINS b bytes ≡ session ieee ORIGINS (opened ORIGINS b).set bytes
  -- and no record is refused with 8, however many were answered before it
  pub records : (n : ℕ) (rest : List ℕ) → Without8 (set_after n (opened ORIGINS b).set rest)

abbrev pub Never7Or8 : Type 0
Never7Or8 = (b : Set) → RightLengths b → (bytes : List ℕ) → SessionWithout7Or8 b bytes
