-- `forward` meets its contract: its answer and its set are the call's. Assumes nothing.
use Rattle.exports_calls.proofs.forward.Goals as goal

pub returns-clause-returns : goal.returns-clause-returns
returns-clause-returns g c =
    let leaves = c.forward-point.ensures.leaves in
    rw (← c.spherical-position.ensures) record { returns = rw (← leaves.answer) c.put.ensures; left = leaves.left }
