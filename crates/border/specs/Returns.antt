-- A call as a C function, as one statement: the status that it returns, what it leaves in the numbers lent for its answer, and the set.
-- Definitions only.
use Rattle.std.specs.Prelude.{ℕ, ◌≡◌}
use Rattle.std.specs.Borrow.{MutBor}
use denote.Triple.Both.{Both}
use Rattle.answer.specs.Given.{Given, answered, refused, status}
use Rattle.set.specs.Set.{Set}
use Rattle.set.specs.Outcome.{Outcome, Becomes}

-- what a parameter that is lent for an answer holds: as it is lent, and as it is handed back
abbrev pub contents : {L : Type 0} → Both (MutBor L) (MutBor L) → Both L L
contents to = record { entry = to.entry.now; exit = to.exit.now }

-- the same of two
abbrev pub contents_of : {L M : Type 0} → Both (MutBor L) (MutBor L) → Both (MutBor M) (MutBor M) → Both (L × M) (L × M)
contents_of a b = record { entry = (a.entry.now, b.entry.now); exit = (a.exit.now, b.exit.now) }

-- an answer is written as the numbers that stand for it; a refusal leaves what stood there
abbrev pub written : {X L : Type 0} → (X → L) → Given X → L → L
written f (answered x) old = f x
written f (refused n) old = old

-- a call that is lent nothing but the numbers for its answer
pub record Returns {X L : Type 0} (given : Given X) (r : ℕ) (to : Both L L) (f : X → L) : Type 0 where
  pub status_is : r ≡ status given
  pub to_is : to.exit ≡ written f given to.entry

-- a call on a set
pub record ReturnsOn {X L : Type 0} (set : Both Set Set) (r : ℕ) (to : Both L L) (f : X → L) (call : Set → Outcome X) : Type 0 where
  pub returns : Returns (call set.entry).answer r to f
  pub left : Becomes set (λ s. (call s).set)
