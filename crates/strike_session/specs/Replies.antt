-- What a function writes and leaves in the set that it is lent, held to what records come to. Definitions only.
use Rattle.std.specs.Prelude.{ℕ}
use denote.Triple.Both.{Both}
use Rattle.set.specs.Set.{Set}
use Rattle.set.specs.Outcome.{Becomes}
use Rattle.strike_records.specs.Writes.{Bytes, Writes}
use Rattle.strike_records.specs.Reply.{Reply}

-- records are answered on a set: their lines stand from a place on, and the set is left as the last of them leaves it
pub record Replies (set : Both Set Set) (out : Bytes) (at end : ℕ) (f : Set → Reply) : Type 0 where
  pub lines : Writes out at (f set.entry).lines end
  pub left : Becomes set (λ s. (f s).set)
