-- What unplace hands to to_lon_lat is a position that to_spherical gave, on every content of the buffers: sine takes nothing outside there. Assumes nothing.
use mathlib.Core.Path.{◌≡◌, subst}
use Prim.Native.Nat.{ℕ}
use mathlib.Core.Bool.{false}
use lib.Ieee.{binary64, sub}
use Rattle.answer.specs.Given.{answered}
use Rattle.arithmetic.specs.Arith.{ieee}
use Rattle.elementary.specs.Constants.{FRAC_PI_2}
use Rattle.elementary.specs.Sine.{outside}
use Rattle.coordinates.specs.declared.coords.Face.{Face}
use Rattle.coordinates.specs.declared.spherical.Spherical.{Spherical}
use Rattle.coordinates.proofs.Sizes.{spherical_colatitude}
use Rattle.origin.specs.declared.utils.Origin.{Origin}
use Rattle.set.specs.Set.{Set}
use Rattle.dodecahedron.specs.declared.work.Work.{Work}
use Rattle.dodecahedron.specs.Projection.{inverse_core}
use Rattle.dodecahedron.proofs.Worked.{inverse_point}

abbrev Inside : Work Spherical → Type 0
Inside w = outside (sub binary64 FRAC_PI_2 w.answer.phi.0) ≡ false

pub inverse_colatitude : (origin : Origin) (s : Set) (f : Face) (o : ℕ) (w : Work Spherical)
    → inverse_core ieee origin s f o ≡ answered w → outside (sub binary64 FRAC_PI_2 w.answer.phi.0) ≡ false
inverse_colatitude origin s f o w e =
    let b = inverse_point ieee origin s o f w e in
    subst (λ (x : Work Spherical). Inside x) b.3 (spherical_colatitude b.1)
