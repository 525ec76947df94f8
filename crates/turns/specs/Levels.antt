-- Whole rounds at once: what the code works with. While every round reaches all who are short, each channel has the smaller of its wish and a level, and
-- a round takes the level up by one. Definitions only.
use Rattle.std.specs.Prelude.{ℕ, ◌≤◌, ◌<◌, ◌≡◌, ◌⊎◌, List, map}
use Rattle.turns.specs.Turns.{CALLS, SHARE, sum, capped, remaining, still_short}

-- how many channels wish for more than a level
abbrev pub short_of : ℕ → List ℕ → ℕ
short_of level wishes = sum (map (λ wish. still_short wish level) wishes)

-- The level at which whole rounds end: no more than all calls are handed out by then, and nobody is short or not all who are can get one more.
pub record LastLevel (wishes : List ℕ) (level : ℕ) : Type 0 where
  pub first : SHARE ≤ level
  pub within : sum (capped level wishes) ≤ CALLS
  pub last : (short_of level wishes ≡ 0) ⊎ (remaining (capped level wishes) < short_of level wishes)
