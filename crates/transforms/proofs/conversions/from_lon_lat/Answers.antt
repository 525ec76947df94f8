-- `conversions::from_lon_lat` meets its contract. Assumes nothing.
use mathlib.Core.Path.{sym, ap, ◌∙◌}
use Rattle.answer.specs.Answer.{given}
use Rattle.coordinates.proofs.Sizes.{latitude_inside}
use Rattle.transforms.proofs.conversions.from_lon_lat.Goals as goal

pub from_lon_lat-requires : goal.from_lon_lat-requires
from_lon_lat-requires c =
    latitude_inside c.args.lonlat (sym c.check_lon_lat.ensures ∙ ap given c.in_ok-check_lon_lat.was)
