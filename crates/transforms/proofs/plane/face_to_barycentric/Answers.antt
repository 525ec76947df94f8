-- `plane::face_to_barycentric` meets its contract: the code computes the definition, in which 1.0 is written by its parts. Assumes nothing.
use mathlib.Core.Path.{refl}
use lib.Ieee.{of_bits}
use Rattle.arithmetic.specs.Arith.{ieee}
use Rattle.coordinates.specs.CoordinateTransforms.{face_to_barycentric}
use Rattle.transforms.proofs.plane.face_to_barycentric.Goals as goal

pub returns : goal.returns
unfolding face_to_barycentric of_bits
returns c = refl {a = face_to_barycentric ieee c.args.p c.args.triangle}
