-- `place_one` meets its contract: place's, with its answer as a result. Assumes nothing.
use Rattle.answer.specs.Answer.{given}
use Rattle.arithmetic.specs.Arith.{ieee}
use Rattle.set.specs.Outcome.{Leaves}
use Rattle.dodecahedron.specs.Calls.{place_on}
use Rattle.place_list.specs.Lists.{placed_one}
use Rattle.list_calls.proofs.place_one.Goals as goal

pub returns-clause-stepped : goal.returns-clause-stepped
unfolding placed_one
returns-clause-stepped g c =
    let called : Leaves _ (given c.place.result) (λ s. place_on ieee (g.O.Origins.table c.args.origins.now) s c.args.position) = c.place.ensures.leaves in
    rw (c.result.ensures, called.answer, called.left)
