-- `numbers` of a face point meets its contract: x, then y. Assumes nothing.
use mathlib.Core.Path.{refl}
use Rattle.border.proofs.answers.FaceNumbers.numbers.Goals as goal

pub returns : goal.returns
returns c = refl
