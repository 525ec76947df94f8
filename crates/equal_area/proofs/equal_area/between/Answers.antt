-- `equal_area::between` meets its contract. Assumes nothing.
use lib.Ieee.{of_bits}
use Rattle.equal_area.specs.EqualArea.{between}
use Rattle.equal_area.proofs.equal_area.between.Goals as goal

pub returns : goal.returns
unfolding between of_bits
returns c =
    rw (c.scale_and_add.ensures, c.scale.ensures, c.sqrt.ensures, c.dot-s.ensures)
