-- Bytes written into a buffer that is lent. Definitions only.
use Rattle.std.specs.Prelude.{ℕ, ◌+◌, ◌≡◌, List, length}
use Rattle.std.specs.Borrow.{MutBor}
use denote.Triple.Both.{Both}
use Rattle.stores.specs.Slots.{put}

-- a buffer's bytes as they are lent, and as they are handed back
abbrev pub Bytes : Type 0
Bytes = Both (List ℕ) (List ℕ)

-- something as it was, and as it is then
abbrev pub change : {A : Type 0} → A → A → Both A A
change before after = record { entry = before; exit = after }

-- the same of a parameter
abbrev pub lent_bytes : Both (MutBor (List ℕ)) (MutBor (List ℕ)) → Bytes
lent_bytes b = change b.entry.now b.exit.now

-- so many bytes stand from a place on, in the place of as many, and end at another; nothing else is changed
pub record Writes (buffer : Bytes) (at : ℕ) (line : List ℕ) (end : ℕ) : Type 0 where
  pub end_is : end ≡ at + length line
  pub now_is : buffer.exit ≡ put buffer.entry at line
