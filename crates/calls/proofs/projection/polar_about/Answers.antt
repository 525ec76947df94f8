-- `projection::polar_about` meets its contract. Assumes nothing.
use Rattle.coordinates.proofs.Sizes.{spherical_phi, inside_16}
use Rattle.dodecahedron.specs.Projection.{polar_about}
use Rattle.calls.proofs.projection.polar_about.Goals as goal

pub forward-polar-requires : goal.forward-polar-requires
forward-polar-requires c = rw c.to_spherical.ensures (inside_16 _ (spherical_phi _))

pub returns : goal.returns
unfolding polar_about
returns c =
    rw (c.forward-polar.ensures, c.to_spherical.ensures, c.transform_quat-out.ensures, c.quat_conjugate.ensures)
