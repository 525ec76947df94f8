-- `place` meets its contract: it ends as its kind of call does, on slots that are there. Assumes nothing.
use mathlib.Core.Path.{ap, ◌∙◌}
use Rattle.arithmetic.specs.Arith.{ieee}
use Rattle.dodecahedron.specs.Work.{answer_of}
use Rattle.dodecahedron.proofs.Ended.{place_there, left_there}
use Rattle.calls.proofs.place.Goals as goal

pub returns : goal.returns
returns g c =
    let worked = rw c.view.ensures at c.place_work-work.ensures in
    let ends = c.leave.ensures in
    record {
      same = ends.same;
      leaves = record {
        answer = ends.leaves.answer ∙ ap answer_of worked;
        left = ends.leaves.left ∙ left_there ieee _ _ _ worked (place_there ieee _ _ _);
      };
    }
