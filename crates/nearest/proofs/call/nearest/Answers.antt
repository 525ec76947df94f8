-- `call::nearest` meets its contract. Assumes nothing.
use mathlib.Core.Path.{◌≡◌, refl, sym, ap, ◌∙◌}
use Rattle.answer.specs.Answer.{given}
use Rattle.answer.proofs.Given.{handed_on}
use Rattle.arithmetic.specs.Arith.{ieee}
use Rattle.coordinates.specs.Conversions.{check_spherical}
use Rattle.coordinates.proofs.Sizes.{passed_inside}
use Rattle.nearest.specs.Calls.{nearest_given}
use Rattle.origin.proofs.Check.{passed_sound}
use Rattle.nearest.proofs.call.nearest.Goals as goal

pub returns-in_err-check_spherical : goal.returns-in_err-check_spherical
unfolding nearest_given
returns-in_err-check_spherical g c =
    let table = sym c.check.ensures ∙ ap given c.in_ok-check.was in
    let point : check_spherical c.args.point ≡ given c.check_spherical.result = sym c.check_spherical.ensures in
    handed_on _ _ c.from_residual-in_err-check_spherical.ensures ∙ sym (rw (table, point ∙ ap given c.in_err-check_spherical.was) refl)

pub find_nearest_origin-requires : goal.find_nearest_origin-requires
find_nearest_origin-requires g c =
    record {
      table_value = passed_sound ieee _ (sym c.check.ensures ∙ ap given c.in_ok-check.was);
      point = passed_inside c.args.point (sym c.check_spherical.ensures ∙ ap given c.in_ok-check_spherical.was);
    }
