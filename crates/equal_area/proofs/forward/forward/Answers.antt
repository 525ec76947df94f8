-- `forward::forward` meets its contract: rho's root is of the quotient with P above. Assumes nothing.
use mathlib.Core.Path.{◌≡◌}
use lib.Ieee.{of_bits}
use Rattle.arithmetic.specs.Arith.{ieee}
use Rattle.coordinates.specs.Vector.{dot}
use Rattle.equal_area.specs.EqualArea.{forward}
use Rattle.equal_area.proofs.forward.forward.Goals as goal

pub returns : goal.returns
unfolding forward of_bits
returns c =
    let above : c.dot.result ≡ dot ieee c.args.spherical_triangle.a c.scale-p.result = c.dot.ensures in
    let found = c.spherical_triangle_area_and_sqrt-found.ensures in
    rw (c.barycentric_to_face.ensures, c.max_zero-area_abp.ensures, found.0, found.1, above, c.dot-2.ensures)
    (rw (c.scale-p.ensures, c.one_over.ensures, c.length-d.ensures, c.scale_and_add-p.ensures, c.scale.ensures, c.dot-volume_vbc.ensures))
