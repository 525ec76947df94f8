-- `conversions::to_lon_lat` meets its contract. Assumes nothing.
use mathlib.Core.Path.{sym, ap, ◌∙◌}
use Rattle.answer.specs.Answer.{given}
use Rattle.coordinates.proofs.Sizes.{passed_colatitude}
use Rattle.transforms.proofs.conversions.to_lon_lat.Goals as goal

pub to_lon_lat-requires : goal.to_lon_lat-requires
to_lon_lat-requires c =
    passed_colatitude c.args.spherical (sym c.check_spherical.ensures ∙ ap given c.in_ok-check_spherical.was)
