-- Document 01, "The strike program": a session whose input arrives in pieces. Bytes that are not taken yet are kept, and what arrives
-- next stands behind them. Definitions only.
use Rattle.std.specs.Prelude.{ℕ, zero, suc, ◌+◌, ◌*◌, ◌-◌, ◌/◌, ◌≤◌, min, Bool, true, false, List, [], ◌∷◌, ◌++◌, ltb, eqb, length, take, drop, Float}
use Rattle.answer.specs.Given.{Given, answered, refused}
use Rattle.arithmetic.specs.Arith.{Arith}
use Rattle.set.specs.Set.{Set}
use Rattle.set.specs.Open.{open_on}
use Rattle.strike_records.specs.Line.{LINE, refusal_line}
use Rattle.strike_records.specs.Record.{headed}
use Rattle.strike_records.specs.Reply.{replies}
use Rattle.strike_session.specs.Session.{MAX_RECORDS}
use Rattle.strike_session.specs.declared.session.Stage.{Stage}
use Rattle.strike_session.specs.declared.session.Stage.TheVariants.{Header, Records, Stopped}

-- how many of at most n records can be answered: whole ones, with room for their lines
abbrev pub answerable : ℕ → List ℕ → ℕ → ℕ
answerable n bytes room = min n (min (length bytes / 10) (room / LINE))

-- what feeding comes to: where the session stands then, how many bytes it took, its lines, and the set after it
pub record Fed : Type 0 where
  pub stage : Stage
  pub taken : ℕ
  pub lines : List ℕ
  pub set : Set

-- nothing is taken
abbrev pub still : Stage → Set → Fed
still stage s = record { stage = stage; taken = 0; lines = []; set = s }

-- 11 ends the session
abbrev pub wrong_header : Set → Fed
wrong_header s = record { stage = Stopped; taken = 5; lines = refusal_line 11; set = s }

module _ (A : Arith) (table : List Float) where
  -- k of n records, behind so many bytes of the header
  unfoldable pub records_fed : ℕ → ℕ → Set → List ℕ → ℕ → Fed
  records_fed header n s bytes k =
      record { stage = Records (n - k); taken = header + k * 10; lines = (replies A table s bytes k).lines; set = (replies A table s bytes k).set }

  -- all that can be answered of what has arrived, with that much room for lines; nothing without room for a line
  unfoldable pub fed : Stage → Set → List ℕ → ℕ → Fed
  fed Stopped s bytes room = still Stopped s
  fed (Records n) s bytes room = records_fed 0 n s bytes (answerable n bytes room)
  fed Header s bytes room =
      elim (ltb (length bytes) 5) [
        | true ↦ still Header s
        | false ↦
            elim (headed bytes) [
              | true ↦ records_fed 5 MAX_RECORDS s (drop 5 bytes) (answerable MAX_RECORDS (drop 5 bytes) room)
              | false ↦ elim (ltb room LINE) [ true ↦ still Header s | false ↦ wrong_header s ]
            ]
      ]

-- the line at the input's end, where that many bytes are left that were not taken
abbrev pub end_line : Stage → ℕ → List ℕ
end_line Header kept = refusal_line 11
end_line (Records zero) kept = []
end_line (Records (suc n)) zero = []
end_line (Records (suc n)) (suc kept) = refusal_line 13
end_line Stopped kept = []

-- nothing more is taken
abbrev pub over : Stage → Bool
over Header = false
over (Records n) = eqb n 0
over Stopped = true

-- a line where there is room for one
unfoldable pub fitting : ℕ → List ℕ → List ℕ
fitting room line = elim (ltb room LINE) [ true ↦ [] | false ↦ line ]

-- where a session begins, by what open gave: nowhere, if it refused
abbrev pub begin_stage : Given (Unit {0}) → Stage
begin_stage (answered u) = Header
begin_stage (refused n) = Stopped

abbrev pub begin_line : Given (Unit {0}) → List ℕ
begin_line (answered u) = []
begin_line (refused n) = refusal_line n

-- what is left of the first `filled` bytes of a buffer when `taken` of them are gone
abbrev pub left_over : List ℕ → ℕ → ℕ → List ℕ
left_over buffer taken filled = drop taken (take filled buffer)

-- ---- the whole of a session whose input arrives in pieces

-- bytes that arrive together, and the room for lines then
pub record Piece : Type 0 where
  pub bytes : List ℕ
  pub room : ℕ

-- all that arrives
abbrev pub joined : List Piece → List ℕ
joined [] = []
joined (p ∷ ps) = p.bytes ++ joined ps

-- room for a line for each record that a piece can complete, and for one more
abbrev pub Roomy : List Piece → Type 0
Roomy [] = Unit {0}
Roomy (p ∷ ps) = ((length p.bytes / 10 + 1) * LINE ≤ p.room) × Roomy ps

module _ (A : Arith) (table : List Float) where
  -- all that is written: each piece is fed behind the bytes that were kept, and then the input ends
  abbrev pub piecewise : Stage → Set → List ℕ → List Piece → List ℕ
  piecewise stage s kept [] = end_line stage (length kept)
  piecewise stage s kept (p ∷ ps) =
      let f = fed A table stage s (kept ++ p.bytes) p.room in
      f.lines ++ piecewise f.stage f.set (drop f.taken (kept ++ p.bytes)) ps

  -- the same from the start: what open gives, and the set after it
  abbrev pub program_piecewise : Set → List Piece → List ℕ
  program_piecewise s ps =
      let opened = open_on A table s in
      begin_line opened.answer ++ piecewise (begin_stage opened.answer) opened.set [] ps
