-- `put_region` meets its contract, where the region was refused. Assumes nothing.
use mathlib.Core.Path.{refl, ap}
use Rattle.answer.specs.Answer.{given}
use Rattle.border.proofs.Returns.{returns_refusal}
use Rattle.region_border.proofs.put_region.Goals as goal

pub returns-in-Err : goal.returns-in-Err
returns-in-Err c = returns_refusal _ (ap given c.in-Err.is) c.number.ensures refl
