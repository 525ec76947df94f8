-- A block that passes its check has 32 bytes; and so has one whose step passes. Assumes nothing.
use mathlib.Core.Path.{◌≡◌}
use mathlib.Core.List.{List}
use Prim.Native.Nat.{ℕ}
use lib.Ieee.{Float}
use lib.ListN.{length}
use borrow.Author.Tests.{eqb-true, not-false}
use Rattle.answer.specs.Given.{passed}
use Rattle.answer.proofs.Given.{refuse_answered, then_answered}
use Rattle.arithmetic.specs.Arith.{Arith}
use Rattle.set.specs.Set.{Set}
use Rattle.set.specs.Checks.{check_with}
use Rattle.panel.specs.Registers.{BLOCK, check_block}
use Rattle.panel.specs.Step.{check_step}

pub block_passed : (b : List ℕ) → check_block b ≡ passed → length b ≡ BLOCK
unfolding check_block
block_passed b e = eqb-true (length b) BLOCK (not-false _ (refuse_answered _ 23 passed tt e).0)

pub step_passed : (A : Arith) (table : List Float) (s : Set) (b : List ℕ) → check_step A table s b ≡ passed → length b ≡ BLOCK
unfolding check_step
step_passed A table s b e = block_passed b (then_answered (check_block b) (check_with A table s) tt e).0
