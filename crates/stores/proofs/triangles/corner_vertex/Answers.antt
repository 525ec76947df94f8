-- `triangles::corner_vertex` meets its contract. Assumes nothing.
use Rattle.stores.specs.Triangles.{corner_vertex}
use Rattle.stores.proofs.CornerAngles.{corner_inside}
use Rattle.stores.proofs.triangles.corner_vertex.Goals as goal

pub to_cartesian-rotated-requires : goal.to_cartesian-rotated-requires
to_cartesian-rotated-requires c =
    rw (c.inverse.ensures, c.to_polar-polar.ensures)
    (corner_inside c.args.corner c.args.origin.origin.angle.0 c.args.origin.small)

pub returns : goal.returns
unfolding corner_vertex
returns c =
    rw (
      c.get_vertex.ensures,
      c.transform_quat.ensures,
      c.to_cartesian-rotated.ensures,
      c.inverse.ensures,
      c.to_polar-polar.ensures,
    )
