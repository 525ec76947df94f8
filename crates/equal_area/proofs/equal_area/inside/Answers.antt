-- `equal_area::inside` meets its contract: an odd triangle takes the first branch. Assumes nothing.
use mathlib.Core.Path.{sym, ◌∙◌}
use lib.Ieee.{of_bits}
use Rattle.equal_area.specs.EqualArea.{inside, alpha_of}
use Rattle.equal_area.proofs.equal_area.inside.Goals as goal

pub returns-then-is_odd : goal.returns-then-is_odd
unfolding inside alpha_of of_bits
returns-then-is_odd c =
    rw (sym c.is_odd.ensures ∙ c.if-is_odd.true, inside) c.at_angle.ensures

pub returns-else-is_odd : goal.returns-else-is_odd
unfolding inside alpha_of of_bits
returns-else-is_odd c =
    rw (sym c.is_odd.ensures ∙ c.if-is_odd.false, inside) c.at_angle-else-is_odd.ensures
