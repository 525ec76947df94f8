-- `equal_area::is_odd` meets its contract. Assumes nothing.
use Rattle.equal_area.specs.EqualArea.{is_odd}
use Rattle.equal_area.proofs.equal_area.is_odd.Goals as goal

pub returns : goal.returns
unfolding is_odd
returns c =
    rw (c.abs-2.ensures, c.abs.ensures, c.dot-face_a_dot_b.ensures)
