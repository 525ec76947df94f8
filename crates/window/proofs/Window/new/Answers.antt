-- `Window::new` meets its contract. Assumes nothing.
use mathlib.Core.Path.{refl}
use Rattle.window.specs.Window.{empty_window}
use Rattle.window.proofs.Window.new.Goals as goal

pub returns : goal.returns
unfolding empty_window
returns c = refl
