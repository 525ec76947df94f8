-- An addition to a window as a C function: what it returns, and what it leaves. Definitions only.
use Rattle.std.specs.Prelude.{ℕ, ◌≡◌}
use Rattle.window.specs.declared.Window.{Window}
use Rattle.window.specs.Addition.{add_given, window_after}
use Rattle.answer.specs.Given.{status}

-- an addition to the window w returns r, and leaves v
pub record AddedFor (w : Window) (m o r : ℕ) (v : Window) : Type 0 where
  pub status : r ≡ status (add_given w m o)
  pub window : v ≡ window_after (add_given w m o) w m o
