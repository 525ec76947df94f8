-- `sphere_triangles::take_sphere` meets its contract. Assumes nothing.
use mathlib.Core.Path.{refl, sym, ap, ◌∙◌}
use Rattle.answer.specs.Given.{answered}
use Rattle.stores.specs.Triangles.{sphere_taken}
use Rattle.stores.proofs.Runs.{gap}
use Rattle.stores.proofs.sphere_triangles.take_sphere.Goals as goal

pub returns-then-is_filled : goal.returns-then-is_filled
unfolding sphere_taken
returns-then-is_filled c =
    let read = simp gap at c.read_sphere.ensures in
    ap answered read ∙ sym (rw (sym c.is_filled.ensures ∙ c.if-is_filled.true) refl)

pub returns-else-is_filled : goal.returns-else-is_filled
unfolding sphere_taken
returns-else-is_filled c = simp (c.build_sphere.ensures, c.take_face.ensures, ← c.is_filled.ensures, c.if-is_filled.false)
