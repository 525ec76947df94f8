-- `forward::compute_constants` meets its contract: the volume's sign is that of B × C. Assumes nothing.
use mathlib.Core.Path.{◌≡◌}
use lib.Ieee.{of_bits}
use Rattle.arithmetic.specs.Arith.{ieee}
use Rattle.coordinates.specs.Vector.{cross}
use Rattle.equal_area.specs.EqualArea.{compute_constants}
use Rattle.equal_area.proofs.forward.compute_constants.Goals as goal

pub returns : goal.returns
unfolding compute_constants of_bits
returns c =
    let bxc : c.cross-bxc.result ≡ cross ieee c.args.triangle.b c.args.triangle.c = c.cross-bxc.ensures in
    rw (c.spherical_triangle_area-area.ensures, c.dot-v.ensures, c.dot-b_dot_c.ensures, c.dot-a_dot_c.ensures, c.dot-a_dot_b.ensures, bxc)
