-- A step of the caption panel as a C function: the number that it returns, and the block and the set that it leaves. Definitions only.
use Rattle.std.specs.Prelude.{ℕ, ◌≡◌, cond, List, eqb, Float, length}
use denote.Triple.Both.{Both}
use Rattle.answer.specs.Given.{refused, status}
use Rattle.arithmetic.specs.Arith.{Arith}
use Rattle.set.specs.Set.{Set}
use Rattle.strike_records.specs.Writes.{Bytes}
use Rattle.panel.specs.Step.{Stepped, panel, step_on}
use Rattle.panel.specs.Results.{Carries}

pub record StepsInC (set : Both Set Set) (block : Bytes) (r : ℕ) (step : Set → List ℕ → Stepped) : Type 0 where
  pub status_is : r ≡ status (step set.entry block.entry).answer
  pub carries : Carries set block (λ s b. (step s b).left)

-- "A table reaches a call as exactly 84 numbers": one of another length gets 20, before anything else is tried
unfoldable pub step_with : Arith → List Float → Set → List ℕ → Stepped
step_with A table s b = cond (eqb (length table) 84) (step_on A table s b) (record { answer = refused 20; left = panel b s })
