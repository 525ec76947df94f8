-- The outcome that a record stores, and when two outcomes are the same. Definitions only.
use Rattle.std.specs.Prelude.{ℕ, ◌+◌, Bool, ◌&&◌, Option, Some, None, ◌==◌, nat_lt, cond}
use Rattle.std.specs.Option.{option_eq}
use Rattle.std.specs.Cmp.Lexicographic.{pointwise}
use Rattle.replay.specs.Outcome.{outcome_of}
use Rattle.replay.specs.Record.{word_at}
use Rattle.replay.specs.declared.outcome.Outcome.{Outcome}
use Rattle.replay.specs.declared.record.Record.{Record}

-- the answer at a place, counted from 0 behind the arguments, if there are so many
abbrev pub answer_in : Record → ℕ → Option ℕ
answer_in r k = cond (nat_lt k r.head.answers) (Some (word_at r.words (r.head.arguments + k))) None

-- the outcome that follows the arguments
abbrev pub stored_in : Record → Outcome
stored_in r = outcome_of r.head.status (answer_in r 0) (answer_in r 1) (answer_in r 2)

-- the same status, as many answers, and each answer with the same bits
abbrev pub same : Outcome → Outcome → Bool
same a b = (a.status == b.status) && pointwise (option_eq (λ m n. m == n)) a.answers b.answers
