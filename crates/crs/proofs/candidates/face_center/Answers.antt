-- `candidates::face_center` meets its contract. Assumes nothing.
use Rattle.origin.proofs.Sizes.{sound_small, small_axis}
use Rattle.crs.specs.Candidates.{face_center}
use Rattle.crs.proofs.candidates.face_center.Goals as goal

pub returns : goal.returns
unfolding face_center
returns c = rw (c.to_cartesian.ensures, c.origin_in-origin.ensures)

pub to_cartesian-requires : goal.to_cartesian-requires
to_cartesian-requires c =
    rw c.origin_in-origin.ensures (small_axis _ (sound_small c.args.table.rows.now c.args.table.sound _ c.requires))
