-- `frame::near` meets its contract: the square of the distance is the vector's own product. Assumes nothing.
use Rattle.coordinates.specs.Vector.{subtract, dot}
use Rattle.crs.proofs.Tolerance.{near_squared}
use Rattle.crs.proofs.frame.near.Goals as goal

pub returns : goal.returns
unfolding subtract dot
returns c = let a = c.args in
    rw (c.dot.ensures, c.subtract-d.ensures) (near_squared a.point a.vertex)
