-- `sphere_triangles::build_sphere` meets its contract: each corner in turn. Assumes nothing.
use mathlib.Core.Path.{sym, ap, ◌∙◌}
use Rattle.answer.specs.Answer.{given}
use Rattle.answer.proofs.Given.{handed_on}
use Rattle.stores.specs.Triangles.{sphere_built}
use Rattle.stores.proofs.sphere_triangles.build_sphere.Goals as goal

pub returns-in_err-a : goal.returns-in_err-a
unfolding sphere_built
returns-in_err-a c =
    handed_on _ _ c.from_residual.ensures
    ∙ sym (rw (sym c.corner_vertex.ensures ∙ ap given c.in_err-a.was))

pub returns-in_err-b : goal.returns-in_err-b
unfolding sphere_built
returns-in_err-b c =
    handed_on _ _ c.from_residual-in_err-b.ensures
    ∙ sym (rw (sym c.corner_vertex.ensures ∙ ap given c.in_ok-a.was, sym c.corner_vertex-2.ensures ∙ ap given c.in_err-b.was))

pub returns-in_err-c : goal.returns-in_err-c
unfolding sphere_built
returns-in_err-c c =
    handed_on _ _ c.from_residual-in_err-c.ensures
    ∙ sym (rw (
      sym c.corner_vertex.ensures ∙ ap given c.in_ok-a.was,
      sym c.corner_vertex-2.ensures ∙ ap given c.in_ok-b.was,
      sym c.corner_vertex-3.ensures ∙ ap given c.in_err-c.was,
    ))

pub returns : goal.returns
unfolding sphere_built
returns c =
    sym (rw (
      sym c.corner_vertex.ensures ∙ ap given c.in_ok-a.was,
      sym c.corner_vertex-2.ensures ∙ ap given c.in_ok-b.was,
      sym c.corner_vertex-3.ensures ∙ ap given c.in_ok-c.was,
    ))
