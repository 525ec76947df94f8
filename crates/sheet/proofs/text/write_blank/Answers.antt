-- `text::write_blank` meets its contract. Assumes nothing.
use mathlib.Core.Path.{refl}
use Rattle.sheet.specs.Line.{line}
use Rattle.sheet.proofs.text.write_blank.Goals as goal

pub returns : goal.returns
unfolding line
returns c = rw (c.fill.ensures.after (λ y e. e), c.requires) refl
