-- `unplace` meets its contract: its answer and its set are the call's. Assumes nothing.
use Rattle.exports_place.proofs.unplace.Goals as goal

pub returns-clause-returns : goal.returns-clause-returns
returns-clause-returns g c =
    let leaves = c.unplace-position.ensures.leaves in
    record { returns = rw (← leaves.answer) c.put.ensures; left = leaves.left }
