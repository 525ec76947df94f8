-- Words for what follows from the theorem, for a reader who tries the claim. Definitions only.
use Rattle.std.specs.Prelude.{ℕ, ◌≤◌, ◌≡◌, List, [], ◌∷◌}
use Rattle.window.specs.Kept.{Strike}

-- every strike of a list is in minute m, and has an origin
unfoldable pub InMinute : ℕ → List Strike → Type 0
InMinute m [] = Unit {0}
InMinute m (s ∷ ss) = (s.minute ≡ m) × (s.origin ≤ 11) × InMinute m ss
