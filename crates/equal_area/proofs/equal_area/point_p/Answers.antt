-- `equal_area::point_p` meets its contract. Assumes nothing.
use Rattle.equal_area.specs.EqualArea.{point_p}
use Rattle.equal_area.proofs.equal_area.point_p.Goals as goal

pub returns : goal.returns
unfolding point_p
returns c = rw (c.normalize.ensures, c.scale_and_add.ensures, c.scale.ensures)
