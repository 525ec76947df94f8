-- Document 02, Paper 11, what holds of every step, for all contents of the block and the set: it follows from the definition.
-- Definitions only; `proofs/EveryStep` proves it.
use Rattle.std.specs.Prelude.{ℕ, ◌≤◌, ◌<◌, ◌≡◌, ◌⊎◌, List, Float, length, get_or}
use Rattle.answer.specs.Given.{passed}
use Rattle.arithmetic.specs.Arith.{Arith}
use Rattle.set.specs.Set.{Set}
use Rattle.panel.specs.Registers.{COMMAND, STATUS, MASK, INTERRUPT, ORIGIN, REFUSAL, FIRST, DONE, REFUSED, interrupt}
use Rattle.panel.specs.Step.{check_step, step_on}

-- byte i of both blocks is the same
abbrev pub Same : List ℕ → List ℕ → ℕ → Type 0
Same b c i = get_or c i 0 ≡ get_or b i 0

-- a block b after a command, known or not, is c
pub record AfterCommand (b c : List ℕ) : Type 0 where
  -- "sets byte 0 to 0"
  pub command : get_or c COMMAND 0 ≡ 0
  -- "the status byte is exactly 1 or 2"
  pub status : (get_or c STATUS 0 ≡ DONE) ⊎ (get_or c STATUS 0 ≡ REFUSED)
  -- "the interrupt byte is worked out anew"
  pub line : get_or c INTERRUPT 0 ≡ interrupt (get_or c STATUS 0) (get_or c MASK 0)
  -- "Done clears byte 5."
  pub cleared : get_or c STATUS 0 ≡ DONE → get_or c REFUSAL 0 ≡ 0
  -- "A refusal leaves result and origin bytes"
  pub kept : get_or c STATUS 0 ≡ REFUSED → Same b c ORIGIN × ((i : ℕ) → FIRST ≤ i → Same b c i)

-- a block b after command 0 is c: "only the interrupt byte is worked out anew"
pub record AfterNothing (b c : List ℕ) : Type 0 where
  pub line : get_or c INTERRUPT 0 ≡ interrupt (get_or b STATUS 0) (get_or b MASK 0)
  pub others : (i : ℕ) → (i ≡ INTERRUPT → ⊥) → Same b c i

pub record EveryStep (A : Arith) (table : List Float) (s : Set) (b : List ℕ) (c : List ℕ) : Type 0 where
  -- "No step alters byte 2 or bytes 6 to 15", refused or not
  pub mask : Same b c MASK
  pub inputs : (i : ℕ) → 6 ≤ i → i < FIRST → Same b c i
  pub long : length c ≡ length b
  -- by the command, where the step itself isn't refused
  pub command : check_step A table s b ≡ passed → (get_or b COMMAND 0 ≡ 0 → ⊥) → AfterCommand b c
  pub nothing : check_step A table s b ≡ passed → get_or b COMMAND 0 ≡ 0 → AfterNothing b c

abbrev pub OfEveryStep : Type 0
OfEveryStep = (A : Arith) (table : List Float) (s : Set) (b : List ℕ) → EveryStep A table s b (step_on A table s b).left.block
