-- The strike program between two reads, and what its reads come to, for whatever bytes they brought. Definitions only.
use Rattle.std.specs.Prelude.{ℕ, ◌+◌, ◌*◌, ◌/◌, ◌≤◌, ◌<◌, ◌≡◌, Bool, true, false, List, [], ◌++◌, length, take, drop}
use Rattle.std.specs.declared.option.Option.{Option}
use Rattle.std.specs.Io.KnownBytes.{Consumes, Appends}
use Rattle.arithmetic.specs.Arith.{ieee}
use Rattle.origin.specs.Origins.{ORIGINS}
use Rattle.set.specs.Set.{Set}
use Rattle.set.specs.Open.{open_on}
use Rattle.stores.specs.Slots.{put}
use Rattle.strike_records.specs.Line.{LINE}
use Rattle.strike_session.specs.Session.{program}
use Rattle.strike_session.specs.Pieces.{Fed, fed, end_line, over, begin_stage, begin_line}
use Rattle.strike_session.specs.declared.session.Stage.{Stage}
use Rattle.strike_session.specs.declared.session.Stage.TheVariants.{Header, Records, Stopped}

-- where a session stands: its stage, its set, and the bytes that were not taken
pub record State : Type 0 where
  pub stage : Stage
  pub set : Set
  pub kept : List ℕ

-- the same from what the program holds: the bytes that were not taken are the buffer's first
abbrev pub state_of : Stage → ℕ → Set → List ℕ → State
state_of stage kept set buffer = record { stage = stage; set = set; kept = take kept buffer }

-- where a session begins, as open answered or refused
abbrev pub Begins : Stage → Type 0
Begins Header = Unit {0}
Begins (Records n) = ⊥
Begins Stopped = Unit {0}

-- what feeding gives for the kept bytes and those that arrived behind them, with that much room for lines
abbrev pub given : ℕ → State → List ℕ → Fed
given room s arrived = fed ieee ORIGINS s.stage s.set (s.kept ++ arrived) room

-- where the session stands then
abbrev pub next : ℕ → State → List ℕ → State
next room s arrived =
    let f = given room s arrived in
    record { stage = f.stage; set = f.set; kept = drop f.taken (s.kept ++ arrived) }

-- a buffer that holds some record and more, and room for a line for each record that it holds and for one more
abbrev pub RoomyBuffers : List ℕ → List ℕ → Type 0
RoomyBuffers buffer out = (10 ≤ length buffer) × ((length buffer / 10 + 1) * LINE ≤ length out)

-- One step from s to t; whether the program ends by it, and whether lines are lost because a write failed. The buffer holds so many bytes;
-- `before` and `out` are the buffer for lines.
pub data Stepped (space : ℕ) (s t : State) (before out : List ℕ) : Bool → Bool → Type 0 where
  -- the session was over, or a read brought nothing: all is as it was
  rests : t ≡ s → out ≡ before → Stepped space s t before out true false
  -- some bytes arrived and were fed; the program ends by that exactly if their lines were not all written
  feeds : (arrived : List ℕ) → 0 < length arrived → length arrived ≤ space → over s.stage ≡ false → t ≡ next (length before) s arrived
      → out ≡ put before 0 (given (length before) s arrived).lines → (lost : Bool) → Stepped space s t before out lost lost

-- All steps, from s to t: pieces arrived one after the other, some bytes each and no more than the buffer holds, and none after the session was over.
pub data Read (space room : ℕ) (s : State) : State → Type 0 where
  none : Read space room s s
  more : {t : State} → Read space room s t → (arrived : List ℕ) → 0 < length arrived → length arrived ≤ space → over t.stage ≡ false
      → Read space room s (next room t arrived)

-- The session's end, at `last` after all reads: the line that the input's end gives there stands at the start of the buffer for lines.
pub record Ended (space room : ℕ) (s last : State) (written : ℕ) (out : List ℕ) : Type 0 where
  pub read : Read space room s last
  pub written_is : written ≡ length (end_line last.stage (length last.kept))
  pub line_is : take written out ≡ end_line last.stage (length last.kept)

-- What a step or all reads do to a reader's and a writer's bytes, where those are known: the bytes that arrived are what the reader loses at its start,
-- and where no lines are lost, the lines are what the writer gains.
pub record Passes (unread unread' written written' : Option (List ℕ)) (arrived lines : List ℕ) (lost : Bool) : Type 0 where
  pub taken : Consumes unread unread' arrived
  pub given : lost ≡ false → Appends written written' lines

-- where a session begins on a set that held anything: what open gives, the set after it, and no bytes
abbrev pub begun : Set → State
begun s =
    let opened = open_on ieee ORIGINS s in
    record { stage = begin_stage opened.answer; set = opened.set; kept = [] }

-- ---- one step

module _ {space : ℕ} {s t : State} {before out : List ℕ} where
  -- the bytes that arrived in a step
  abbrev pub step_bytes : {ended lost : Bool} → Stepped space s t before out ended lost → List ℕ
  step_bytes (rests e o) = []
  step_bytes (feeds arrived some fits on is lines l) = arrived

  -- the lines that it gives for them
  abbrev pub step_lines : {ended lost : Bool} → Stepped space s t before out ended lost → List ℕ
  step_lines (rests e o) = []
  step_lines (feeds arrived some fits on is lines l) = (given (length before) s arrived).lines

-- ---- all reads together

module _ {space room : ℕ} {s : State} where
  -- all bytes that arrived
  abbrev pub bytes_of : {t : State} → Read space room s t → List ℕ
  bytes_of none = []
  bytes_of (more r arrived some fits on) = bytes_of r ++ arrived

  -- all lines that were given for them
  abbrev pub lines_of : {t : State} → Read space room s t → List ℕ
  lines_of none = []
  lines_of (more {t} r arrived some fits on) = lines_of r ++ (given room t arrived).lines

-- However the input arrived: open's line, the lines of all steps and the last line, one after the other, are document 01's for the bytes that arrived.
abbrev pub WholeSession : Type 0
WholeSession =
    (space room : ℕ) (s : Set) (t : State) → (space / 10 + 1) * LINE ≤ room → (r : Read space room (begun s) t)
    → begin_line (open_on ieee ORIGINS s).answer ++ (lines_of r ++ end_line t.stage (length t.kept))
    ≡ program ieee ORIGINS s (bytes_of r)
