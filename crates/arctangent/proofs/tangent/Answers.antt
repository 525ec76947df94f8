-- `tangent` meets its contract: where y is the smaller size, it is divided by x's. Assumes nothing.
use mathlib.Core.Path.{sym}
use Rattle.elementary.proofs.Angles.{tangent_low}
use Rattle.arctangent.proofs.tangent.Goals as goal

pub returns-then-a-b : goal.returns-then-a-b
returns-then-a-b c = rw (c.abs-a.ensures, c.abs-b.ensures) (sym (tangent_low _ _ (rw (c.abs-a.ensures, c.abs-b.ensures) at c.if-a-b.true)))
