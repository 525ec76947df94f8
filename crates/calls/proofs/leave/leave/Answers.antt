-- `leave::leave` meets its contract, where the work was refused. Assumes nothing.
use mathlib.Core.Path.{refl, sym, ap, ◌∙◌}
use Rattle.answer.specs.Answer.{given}
use Rattle.answer.proofs.Given.{handed_on}
use Rattle.arithmetic.specs.Arith.{ieee}
use Rattle.set.specs.Lent.{held}
use Rattle.dodecahedron.specs.Work.{outcome_if_there}
use Rattle.calls.proofs.leave.leave.Goals as goal

pub returns-in_err-answer : goal.returns-in_err-answer
returns-in_err-answer g c =
    let refused = ap given c.in_err-answer.was in
    let s = held c.args.set.now in
    let answer = handed_on _ _ c.from_residual.ensures in
    record {
      same = record { frame = refl; faces = refl; spheres = refl };
      leaves = record {
        answer = answer ∙ sym (ap (λ w. (outcome_if_there ieee s w).answer) refused);
        left = sym (ap (λ w. (outcome_if_there ieee s w).set) refused);
      };
    }
