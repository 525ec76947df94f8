-- Paper 5, as one claim about every list of additions to a window that starts empty. Definitions only; `proofs/Theorem` proves it.
use Rattle.std.specs.Prelude.{ℕ, zero, suc, ◌+◌, ◌<◌, ◌≤◌, ◌≡◌, length, get_or}
use mathlib.Core.List.{List, [], ◌∷◌, foldr}
use Rattle.window.specs.declared.Window.{Window}
use Rattle.window.specs.Window.{MOST, empty_window}
use Rattle.window.specs.Addition.{next, add_given, window_after}
use Rattle.window.specs.Kept.{Strike, strike, last_minute, kept, given_after, accepted, count}

-- n strikes of the ring from place `at` on
unfoldable pub ring : List ℕ → List ℕ → ℕ → ℕ → List Strike
ring minutes origins at zero = []
ring minutes origins at (suc n) = strike (get_or minutes at 0) (get_or origins at 0) ∷ ring minutes origins (next at) n

-- the strikes of a window, from first to last
abbrev pub strikes_of : Window → List Strike
strikes_of w = ring w.minutes w.origins w.state.first w.state.kept

-- the sum of some numbers
abbrev pub sum : List ℕ → ℕ
sum ns = foldr ◌+◌ 0 ns

-- the window after one addition
abbrev pub add_on : Window → Strike → Window
add_on w s = window_after (add_given w s.minute s.origin) w s.minute s.origin

-- the window after a list of additions, "that only additions write"
unfoldable pub after : Window → List Strike → Window
after w [] = w
after w (s ∷ ss) = after (add_on w s) ss

-- what a window holds whose accepted additions are acc, and what it gives
pub record Holds (w : Window) (acc : List Strike) : Type 0 where
  -- what is kept, from first to last, is what the accepted additions say, in their order
  pub strikes : strikes_of w ≡ kept acc
  -- "The twelve counts must each equal the number of kept strikes with that origin"
  pub counts : (k : ℕ) → k < 12 → get_or w.counts k 0 ≡ count k (kept acc)
  pub twelve : length w.counts ≡ 12
  -- "and their sum is the number kept"
  pub total : sum w.counts ≡ w.state.kept
  pub number : w.state.kept ≡ length (kept acc)
  -- "at most 4,096 strikes"
  pub most : length (kept acc) ≤ MOST
  pub last : w.state.last ≡ last_minute acc
  -- the next addition gives what the accepted ones say
  pub answers : (s : Strike) → add_given w s.minute s.origin ≡ given_after acc s

-- after every list of additions, refused ones included
abbrev pub EveryList : Type 0
EveryList = (ss : List Strike) → Holds (after empty_window ss) (accepted ss)
