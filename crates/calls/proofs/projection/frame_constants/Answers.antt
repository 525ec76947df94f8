-- `projection::frame_constants` meets its contract. Assumes nothing.
use Rattle.dodecahedron.specs.Projection.{frame_constants}
use Rattle.calls.proofs.projection.frame_constants.Goals as goal

pub returns : goal.returns
unfolding frame_constants
returns c =
    rw (c.compute_constants.ensures, c.row-c.ensures, c.row-b.ensures, c.row-a.ensures)
