-- `put_position` meets its contract: a position is put at the place that its record names. Assumes nothing.
use Rattle.std.proofs.Common.{◌≡◌, refl}
use Rattle.replay.specs.Record.{word_at}
use Rattle.replay_positions.proofs.put_position.Goals as goal

pub returns-clause-put : goal.returns-clause-put
returns-clause-put c =
    let place : c.word-place.result ≡ word_at c.args.record.now.words 0 = c.word-place.ensures in
    rw (place, c.argument.ensures, c.argument-2.ensures) refl
