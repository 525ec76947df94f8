-- `equal_area::inverse` meets its contract. Assumes nothing.
use Rattle.equal_area.specs.EqualArea.{inverse}
use Rattle.equal_area.proofs.equal_area.inverse.Goals as goal

pub returns : goal.returns
unfolding inverse
returns c = rw (c.from_barycentric.ensures, c.face_to_barycentric-bary.ensures)
