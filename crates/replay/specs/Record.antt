-- The words of a record, and a head that has room for them. Definitions only.
use Rattle.std.specs.Prelude.{ℕ, ◌<◌, ◌≤◌, List, Option, Some, None, slice_get}
use Rattle.std.specs.Int.{w64, from_be_bytes}
use Rattle.replay.specs.declared.record.Head.{Head}

-- the number of eight bytes, the highest first, if there are any
abbrev pub number_of : Option (List ℕ) → ℕ
number_of (Some bytes) = from_be_bytes w64 bytes
number_of None = 0

-- the word at a place; beyond the twelve it is 0
abbrev pub word_at : List (List ℕ) → ℕ → ℕ
word_at words place = number_of (slice_get words place)

-- a head's record has room for its words, and its function a place in the counts
pub record WellFormed (h : Head) : Type 0 where
  pub number : h.number < 32
  pub arguments : h.arguments ≤ 9
  pub answers : h.answers ≤ 3
