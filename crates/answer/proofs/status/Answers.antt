-- `status` meets its contract: 0 of an answer, and a refusal's number. Assumes nothing.
use mathlib.Core.Path.{◌∙◌}
use Rattle.answer.proofs.status.Goals.{in-Ok, in-Err}
use Rattle.answer.proofs.status.Goals as goal

pub returns : goal.returns
returns g c = elim c.match-outcome.branch [
  | in-Ok w ↦ rw w.in-Ok.is w.result-is
  | in-Err w ↦ rw w.in-Err.is (w.result-is ∙ w.number.ensures)
]
