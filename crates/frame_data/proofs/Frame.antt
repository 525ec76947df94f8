-- The rows that the 132 candidates of the built-in table leave are ROWS, bit for bit. Computed in `quick`, in three
-- parts, since memory is given back only between declarations; a part starts from the rows that the one before left, as
-- data. Assumes nothing.
use mathlib.Core.Path.{◌≡◌, refl, ap, ◌∙◌}
use mathlib.Core.List.{List, [], ◌++◌}
use Prim.Native.Nat.{ℕ}
use lib.Ieee.{Float, lt, eq}
use Rattle.arithmetic.specs.Arith.{Arith}
use Rattle.arithmetic.proofs.Quick.{quick, in_ieee}
use Rattle.coordinates.specs.CoordinateTransforms.{to_cartesian}
use Rattle.coordinates.specs.Vector.{length, vec3_distance, normalize}
use Rattle.coordinates.specs.declared.coords.Cartesian.{Cartesian}
use Rattle.elementary.specs.Arctangent.{atan}
use Rattle.elementary.specs.Constants.{PI}
use Rattle.origin.specs.Constants.{DISTANCE_TO_EDGE, DISTANCE_TO_VERTEX}
use Rattle.origin.specs.Origins.{ORIGINS, origin_at}
use Rattle.origin.specs.Quaternion.{transform_quat}
use Rattle.origin.specs.declared.utils.Origin.{Origin}
use Rattle.crs.specs.Candidates.{around, face_center, vertex, midpoint, candidate}
use Rattle.crs.specs.Frame.{TOLERANCE, near, find_vertex, add_row, add_rows, frame_rows}
use Rattle.frame_data.proofs.Split.{add_rows_split}
use Rattle.frame_data.specs.Claims.{FrameIs}
use Rattle.frame_data.specs.Rows.{CENTRES, VERTICES, ROWS}

-- ---- what is opened to compute: who unfolds a name unfolds the names on its line

module _ (A : Arith) where
  -- of a point round an origin
  unfoldable turned_to : Origin → ℕ → Float → Cartesian
  unfolding around to_cartesian transform_quat PI
  turned_to = around A

  -- of a candidate
  unfoldable made : ℕ → Cartesian
  unfolding candidate face_center vertex midpoint turned_to atan DISTANCE_TO_VERTEX DISTANCE_TO_EDGE origin_at ORIGINS
  made = candidate A ORIGINS

  -- of the rows after some candidates more
  unfoldable rows_after : ℕ → ℕ → List Float → List Float
  unfolding add_rows add_row normalize length eq find_vertex near vec3_distance lt TOLERANCE made
  rows_after = add_rows A ORIGINS

-- ---- the three parts

centres : add_rows quick ORIGINS 12 0 [] ≡ CENTRES
unfolding quick rows_after CENTRES
centres = refl

vertices : add_rows quick ORIGINS 60 12 CENTRES ≡ CENTRES ++ VERTICES
unfolding quick rows_after CENTRES VERTICES
vertices = refl

midpoints : add_rows quick ORIGINS 60 72 (CENTRES ++ VERTICES) ≡ ROWS
unfolding quick rows_after ROWS
midpoints = refl

in_parts : frame_rows quick ORIGINS ≡ ROWS
unfolding frame_rows
in_parts =
    add_rows_split quick ORIGINS 12 120 0 []
    ∙ ap (add_rows quick ORIGINS 120 12) centres
    ∙ add_rows_split quick ORIGINS 60 60 12 CENTRES
    ∙ ap (add_rows quick ORIGINS 60 72) vertices
    ∙ midpoints

pub frame_is : FrameIs
frame_is = in_ieee (λ (A : Arith). frame_rows A ORIGINS ≡ ROWS) in_parts
