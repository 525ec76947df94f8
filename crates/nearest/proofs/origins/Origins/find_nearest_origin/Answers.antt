-- `find_nearest_origin` of any origins meets its contract. Assumes nothing.
use Rattle.nearest.specs.Nearest.{nearest_origin}
use Rattle.nearest.proofs.origins.Origins.find_nearest_origin.Goals as goal

pub returns : goal.returns
unfolding nearest_origin
returns g c = rw (← c.haversines-distances.ensures) c.least.ensures
