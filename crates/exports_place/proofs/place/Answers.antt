-- `place` meets its contract: its answer and its set are the call's. Assumes nothing.
use Rattle.exports_place.proofs.place.Goals as goal

pub returns-clause-returns : goal.returns-clause-returns
returns-clause-returns g c =
    let leaves = c.place-place.ensures.leaves in
    rw (← c.lon_lat-position.ensures) record { returns = rw (← leaves.answer) c.put_place.ensures; left = leaves.left }
