-- `haversine_by` meets its contract. Assumes nothing.
use Rattle.coordinates.proofs.Sizes.{half_inside}
use Rattle.nearest.specs.Nearest.{haversine}
use Rattle.nearest.proofs.haversine_by.Goals as goal

pub sin_inside-a1-requires : goal.sin_inside-a1-requires
unfolding haversine
sin_inside-a1-requires c = let h = c.requires in half_inside _ _ h.point.1 h.axis.1

pub sin_inside-a2-requires : goal.sin_inside-a2-requires
unfolding haversine
sin_inside-a2-requires c = let h = c.requires in half_inside _ _ h.point.0 h.axis.0

pub returns : goal.returns
unfolding haversine
returns c = rw (c.sin_inside.ensures, c.sin_inside-a2.ensures, c.sin_inside-a1.ensures, c.requires.sine_value)
