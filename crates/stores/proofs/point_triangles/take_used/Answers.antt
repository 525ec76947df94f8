-- `point_triangles::take_used` meets its contract. Assumes nothing.
-- `small` says that the triangle's index is below 10, `fits` that the stores have their lengths and the origin is one of twelve.
use mathlib.Core.Path.{sym, ap, ◌∙◌}
use Rattle.answer.specs.Answer.{given}
use Rattle.answer.proofs.Given.{handed_on}
use Rattle.arithmetic.specs.Arith.{ieee}
use Rattle.set.proofs.Lengths.{call_passed}
use Rattle.stores.proofs.Within.{source_below, sphere_below}
use Rattle.stores.proofs.TakenWithin.{used_refused, used_answered}
use Rattle.stores.proofs.point_triangles.take_used.Goals as goal

pub take_sphere-requires : goal.take_sphere-requires
take_sphere-requires c =
    let small = c.get_face_triangle_index-index.ensures.below in
    let fits = call_passed _ _ c.args.on.passes in
    let r = c.should_reflect-reflected.result in
    record {
      slot_bound = (rw c.sphere_slot-slot.ensures (sphere_below _ _ r fits.1 small), fits.0.spheres);
      source_bound = (rw c.source_slot-source.ensures (source_below _ r small), fits.0.faces);
    }

pub take_cross-bxc-requires : goal.take_cross-bxc-requires
take_cross-bxc-requires c =
    let small = c.get_face_triangle_index-index.ensures.below in
    let fits = call_passed _ _ c.args.on.passes in
    (rw c.sphere_slot-slot.ensures (sphere_below _ _ c.should_reflect-reflected.result fits.1 small), fits.0.spheres)

pub returns-in_err-triangle : goal.returns-in_err-triangle
returns-in_err-triangle c =
    let reflect = c.should_reflect-reflected in
    let index = c.get_face_triangle_index-index in
    let triangle = rw (c.sphere_slot-slot.ensures, c.source_slot-source.ensures) at c.take_sphere.ensures in
    let refused = sym triangle ∙ ap given c.in_err-triangle.was in
    handed_on _ _ c.from_residual.ensures
    ∙ sym (used_refused ieee _ _ _ _ index.result reflect.result index.ensures.index reflect.ensures _ refused)

pub returns : goal.returns
returns c =
    let reflect = c.should_reflect-reflected in
    let index = c.get_face_triangle_index-index in
    let triangle = rw (c.sphere_slot-slot.ensures, c.source_slot-source.ensures) at c.take_sphere.ensures in
    let answered = sym triangle ∙ ap given c.in_ok-triangle.was in
    let used = used_answered ieee _ _ _ _ index.result reflect.result index.ensures.index reflect.ensures _ answered in
    rw (c.take_cross-bxc.ensures, c.sphere_slot-slot.ensures) (sym used)
