-- The contract of a step, as one statement: its answer, every byte of the block and every number of the set that it leaves are those of
-- the definition, for the block and the set that it is lent. Definitions only.
use Rattle.std.specs.Prelude.{◌≡◌, List, ℕ}
use denote.Triple.Both.{Both}
use Rattle.answer.specs.Given.{Given}
use Rattle.set.specs.Set.{Set}
use Rattle.set.specs.Outcome.{Becomes}
use Rattle.strike_records.specs.Writes.{Bytes}
use Rattle.panel.specs.Step.{Panel, Stepped}

-- a command is carried out: the block and the set are left as the definition f has them
pub record Carries (set : Both Set Set) (block : Bytes) (f : Set → List ℕ → Panel) : Type 0 where
  pub block_is : block.exit ≡ (f set.entry block.entry).block
  pub left : Becomes set (λ s. (f s block.entry).set)

-- a step, by what it gave
pub record Steps (set : Both Set Set) (block : Bytes) (given : Given (Unit {0})) (step : Set → List ℕ → Stepped) : Type 0 where
  pub answer : given ≡ (step set.entry block.entry).answer
  pub carries : Carries set block (λ s b. (step s b).left)
