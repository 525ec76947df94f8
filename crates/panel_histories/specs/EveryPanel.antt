-- Document 02, Paper 11, as one claim about every list of events: "each command 1 or 2 ends with the result, or the refusal number, of place
-- or unplace on a newly opened set, for the registers as they stood when its step began." Definitions only; `proofs/Theorem` proves it.
use Rattle.std.specs.Prelude.{ℕ, ◌≡◌, List, [], ◌∷◌, Float, length, get_or}
use Rattle.answer.specs.Given.{passed}
use Rattle.arithmetic.specs.Arith.{ieee}
use Rattle.set.specs.Set.{Set}
use Rattle.set.specs.Open.{open_given}
use Rattle.dodecahedron.specs.Calls.{place_on, unplace_on}
use Rattle.strike_records.specs.Record.{lon_lat_in, face_in}
use Rattle.panel.specs.Registers.{BLOCK, COMMAND, ORIGIN, INPUTS, check_block, placed, unplaced}
use Rattle.panel.specs.Step.{block_by, step_on}
use Rattle.histories.specs.EveryList.{opened}
use Rattle.panel_histories.specs.Events.{Event, host_writes, steps, calls, State, state, next}

-- a step with the block b and a table on the set s, against the newly opened set n: every byte that it leaves
pub record AsNew (table : List Float) (s n : Set) (b : List ℕ) : Type 0 where
  -- the step itself is refused with 23 or not at all: no 1, 2, 3, 21 or 22
  pub answer : (step_on ieee table s b).answer ≡ check_block b
  -- whatever the command: what the same step leaves on the newly opened set
  pub block : (step_on ieee table s b).left.block ≡ (step_on ieee table n b).left.block
  -- command 1
  pub place : length b ≡ BLOCK → get_or b COMMAND 0 ≡ 1
      → (step_on ieee table s b).left.block ≡ block_by placed b (place_on ieee table n (lon_lat_in ieee b INPUTS)).answer
  -- command 2
  pub unplace : length b ≡ BLOCK → get_or b COMMAND 0 ≡ 2
      → (step_on ieee table s b).left.block ≡ block_by unplaced b (unplace_on ieee table n (face_in ieee b INPUTS) (get_or b ORIGIN 0)).answer

-- an event where a list stands; "opened with the same table", whatever the three buffers held before
abbrev pub Ends : State → Event → Type 0
Ends d (host_writes b) = Unit {0}
Ends d steps =
    (n : Set) → open_given ieee d.standing.table n ≡ passed →
    AsNew d.standing.table d.standing.set (opened d.standing.table n).set d.block
Ends d (calls c) = Unit {0}

-- each event of a list, at the desk as those before have left it
abbrev pub EachEnds : State → List Event → Type 0
EachEnds d [] = Unit {0}
EachEnds d (e ∷ es) = Ends d e × EachEnds (next d e) es

-- for every table and buffers on which open answers, whatever the block holds then
abbrev pub EveryPanel : Type 0
EveryPanel = (t : List Float) (b : Set) → open_given ieee t b ≡ passed → (block : List ℕ) (es : List Event) → EachEnds (state block (opened t b)) es
