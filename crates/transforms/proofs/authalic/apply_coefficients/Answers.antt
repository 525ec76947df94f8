-- `authalic::apply_coefficients` meets its contract: its steps are the definition's, on the sine and the cosine that it was given. Assumes nothing.
use mathlib.Core.Path.{refl}
use Rattle.coordinates.specs.Authalic.{apply_coefficients}
use Rattle.transforms.proofs.authalic.apply_coefficients.Goals as goal

pub returns : goal.returns
unfolding apply_coefficients
returns c = rw (← c.sin_cos_inside-p.ensures) refl
