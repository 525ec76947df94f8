-- `checks::check_origin` meets its contract. Assumes nothing.
use mathlib.Core.Path.{sym, ap}
use mathlib.Core.Bool.{Bool}
use borrow.Author.Tests.{lt-ltb, le-ltb}
use Rattle.answer.specs.Given.{refuse_if, passed}
use Rattle.set.specs.Checks.{check_origin}
use Rattle.set.proofs.checks.check_origin.Goals as goal

pub returns-then-origin-gt11 : goal.returns-then-origin-gt11
unfolding check_origin
returns-then-origin-gt11 c = sym (ap (λ (above : Bool). refuse_if above 4 passed) (lt-ltb 11 _ c.if-origin-gt11.true))

pub returns : goal.returns
unfolding check_origin
returns c = rw (le-ltb 11 _ c.if-origin-gt11.false)
