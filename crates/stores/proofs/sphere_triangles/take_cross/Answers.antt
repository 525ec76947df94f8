-- `sphere_triangles::take_cross` meets its contract. Assumes nothing.
use mathlib.Core.Path.{refl, sym, ◌∙◌}
use Rattle.stores.specs.Triangles.{cross_taken}
use Rattle.stores.proofs.Runs.{gap}
use Rattle.stores.proofs.sphere_triangles.take_cross.Goals as goal

pub returns-then-is_filled : goal.returns-then-is_filled
unfolding cross_taken
returns-then-is_filled c = simp (c.read_vector.ensures, ← c.is_filled.ensures, c.if-is_filled.true, gap)

pub returns-else-is_filled : goal.returns-else-is_filled
unfolding cross_taken
returns-else-is_filled c = c.cross.ensures ∙ sym (rw (sym c.is_filled.ensures ∙ c.if-is_filled.false) refl)
