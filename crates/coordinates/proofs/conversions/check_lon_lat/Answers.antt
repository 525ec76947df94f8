-- `check_lon_lat` meets its contract: the longitude's refusal comes first. Assumes nothing.
use mathlib.Core.Path.{ap, ◌∙◌}
use lib.Ieee.{of_bits}
use Rattle.answer.specs.Given.{Given, and_then}
use Rattle.answer.specs.Number.{check_number}
use Rattle.answer.proofs.Given.{handed_on}
use Rattle.coordinates.specs.Constants.{90·0}
use Rattle.coordinates.specs.Conversions.{check_lon_lat}
use Rattle.coordinates.proofs.conversions.check_lon_lat.Goals as goal

pub returns-in_err-check_number : goal.returns-in_err-check_number
unfolding check_lon_lat of_bits
returns-in_err-check_number c =
    let latitude = check_number c.args.lonlat.latitude.0 90·0 in
    handed_on _ _ c.from_residual.ensures ∙ ap (λ (longitude : Given (Unit {0})). and_then longitude latitude) c.in_err-check_number.ensures
