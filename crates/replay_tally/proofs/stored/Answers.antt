-- `stored` meets its contract: the answers stand behind the arguments. Assumes nothing.
use Rattle.std.proofs.Common.{◌≡◌, ℕ, ◌+◌, cond, nat_lt, Some, None, ap, ◌∙◌, rules}
use Rattle.replay.specs.Outcome.{outcome_of}
use Rattle.replay.specs.Record.{word_at}
use Rattle.replay_tally.proofs.stored.Goals as goal

pub returns : goal.returns
returns c =
    let r = c.args.record.now in
    let answer_at = λ (place k : ℕ). cond (nat_lt k r.head.answers) (Some (word_at r.words (place + k))) None in
    let outcome_at = λ (place : ℕ). outcome_of r.head.status (answer_at place 0) (answer_at place 1) (answer_at place 2) in
    let behind : outcome_of r.head.status c.answer.result c.answer-2.result c.answer-3.result ≡ outcome_at c.from-place.result = search rules in
    behind ∙ ap outcome_at c.from-place.ensures
