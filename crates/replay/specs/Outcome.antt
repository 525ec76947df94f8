-- An outcome by its places. Definitions only.
use Rattle.std.specs.Prelude.{ℕ, Option, [], ◌∷◌}
use Rattle.replay.specs.declared.outcome.Outcome.{Outcome}

abbrev pub outcome_of : ℕ → Option ℕ → Option ℕ → Option ℕ → Outcome
outcome_of s a b c = record { status = s; answers = a ∷ b ∷ c ∷ [] }
