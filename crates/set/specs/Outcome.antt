-- The contract of a call on a set, as one statement: its answer and the set that it leaves are those of its definition, for the
-- set that it is lent. Definitions only.
use Rattle.std.specs.Prelude.{◌≡◌, List, Float}
use Rattle.std.specs.Borrow.{Bor, MutBor}
use denote.Triple.Both.{Both}
use Rattle.answer.specs.Given.{Given}
use Rattle.set.specs.Set.{Set, set_of}

-- what a call comes to: its answer, and the set that it leaves
pub record Outcome (X : Type 0) : Type 0 where
  pub answer : Given X
  pub set : Set

-- ---- the set in a contract

-- a parameter that is a buffer, lent to be read or to be written: as it is lent, and as it is handed back
abbrev pub SharedBuffer : Type 0
SharedBuffer = Both (Bor (List Float)) (Bor (List Float))

abbrev pub Buffer : Type 0
Buffer = Both (MutBor (List Float)) (MutBor (List Float))

-- three such parameters: the set that is lent, and the set that is handed back. A call on a set reads the frame and writes the stores
abbrev pub lent : SharedBuffer → Buffer → Buffer → Both Set Set
lent frame faces spheres =
    record {
      entry = set_of frame.entry.now faces.entry.now spheres.entry.now;
      exit = set_of frame.exit.now faces.exit.now spheres.exit.now;
    }

-- the same where all three are written, as open does
abbrev pub lent_mut : Buffer → Buffer → Buffer → Both Set Set
lent_mut frame faces spheres =
    record {
      entry = set_of frame.entry.now faces.entry.now spheres.entry.now;
      exit = set_of frame.exit.now faces.exit.now spheres.exit.now;
    }

-- the set is handed back as a function of what it was
abbrev pub Becomes : Both Set Set → (Set → Set) → Type 0
Becomes set f = set.exit ≡ f set.entry

-- a call on the set, by what it gave: both are what the definition `call` comes to on the set that was lent
pub record Leaves {X : Type 0} (set : Both Set Set) (given : Given X) (call : Set → Outcome X) : Type 0 where
  pub answer : given ≡ (call set.entry).answer
  pub left : Becomes set (λ s. (call s).set)
