-- `asked::lengths` meets its contract: the three words from the place on. Assumes nothing.
use Rattle.std.proofs.Common.{◌≡◌, ◌+◌, refl}
use Rattle.replay.specs.Record.{word_at}
use Rattle.replay_sets.proofs.asked.lengths.Goals as goal

pub returns : goal.returns
returns c =
    let second : c.word-2.result ≡ word_at c.args.record.now.words (c.from-at.result + 1) = c.word-2.ensures in
    let third : c.word-3.result ≡ word_at c.args.record.now.words (c.from-at.result + 2) = c.word-3.ensures in
    rw (c.word.ensures, second, third, c.from-at.ensures) refl
