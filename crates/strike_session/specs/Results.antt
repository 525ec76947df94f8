-- What a function hands back and leaves in the buffers that it is lent, held to what it is to come to. Definitions only.
use Rattle.std.specs.Prelude.{ℕ, ◌≤◌, ◌≡◌, List, length, take}
use denote.Triple.Both.{Both}
use Rattle.arithmetic.specs.Arith.{ieee}
use Rattle.origin.specs.Origins.{ORIGINS}
use Rattle.set.specs.Set.{Set}
use Rattle.set.specs.Outcome.{Becomes}
use Rattle.set.specs.Open.{open_on}
use Rattle.strike_records.specs.Writes.{Bytes, Writes}
use Rattle.strike_session.specs.Pieces.{Fed, fed, left_over, fitting, begin_stage, begin_line}
use Rattle.strike_session.specs.declared.session.Begun as declared-begun
use Rattle.strike_session.specs.declared.session.Fed as declared
use Rattle.strike_session.specs.declared.session.FedBuffer as declared-buffer
use Rattle.strike_session.specs.declared.session.Stage.{Stage}

-- feeding, by what it hands back: the lines stand at the buffer's start
pub record Feeds (set : Both Set Set) (out : Bytes) (given : declared.Fed) (f : Set → Fed) : Type 0 where
  pub stage_is : given.stage ≡ (f set.entry).stage
  pub taken_is : given.taken ≡ (f set.entry).taken
  pub lines : Writes out 0 (f set.entry).lines given.written
  pub left : Becomes set (λ s. (f s).set)

-- Feeding from a buffer, of whose bytes the first `filled` were not taken yet: those that are still not taken stand at its start afterwards.
module _ (stage : Stage) (set : Both Set Set) (buffer : Bytes) (filled : ℕ) (out : Bytes) where
  -- what it comes to
  abbrev pub fed_from : Fed
  fed_from = fed ieee ORIGINS stage set.entry (take filled buffer.entry) (length out.entry)

  pub record FeedsBuffer (given : declared-buffer.FedBuffer) : Type 0 where
    pub stage_is : given.stage ≡ fed_from.stage
    pub kept : Writes buffer 0 (left_over buffer.entry fed_from.taken filled) given.kept
    pub lines : Writes out 0 fed_from.lines given.written
    pub left : set.exit ≡ fed_from.set
    pub kept_within : given.kept ≤ length buffer.entry
    pub written_within : given.written ≤ length out.entry

-- a line at the buffer's start, where there is room for one
pub record WritesIfRoom (out : Bytes) (line : List ℕ) (end : ℕ) : Type 0 where
  pub line_is : Writes out 0 (fitting (length out.entry) line) end
  pub within : end ≤ length out.entry

-- a session's begin, by what open gives
pub record Opens (set : Both Set Set) (out : Bytes) (given : declared-begun.Begun) : Type 0 where
  pub stage_is : given.stage ≡ begin_stage (open_on ieee ORIGINS set.entry).answer
  pub line : WritesIfRoom out (begin_line (open_on ieee ORIGINS set.entry).answer) given.written
  pub left : Becomes set (λ s. (open_on ieee ORIGINS s).set)
