-- Paper 5: "a window of at most 4,096 strikes, each with an unsigned 32-bit minute and an origin". Definitions only.
use Rattle.std.specs.Prelude.{ℕ, List, replicate}
pub use Rattle.window.specs.Ring.{MOST, SPAN}
use Rattle.window.specs.declared.State.{State}
use Rattle.window.specs.declared.Window.{Window}

-- the place of the oldest strike, how many are kept, and the minute of the last one accepted
abbrev pub state_of : ℕ → ℕ → ℕ → State
state_of first kept last = record { first = first; kept = kept; last = last }

abbrev pub window_of : List ℕ → List ℕ → List ℕ → State → Window
window_of minutes origins counts state = record { minutes = minutes; origins = origins; counts = counts; state = state }

-- "a window that starts empty": 0 in every place
unfoldable pub empty_window : Window
empty_window = window_of (replicate MOST 0) (replicate MOST 0) (replicate 12 0) (state_of 0 0 0)
