-- `Window::add` meets its contract: it is the addition to the window's parts. Assumes nothing.
use Rattle.window.proofs.Window.add.Goals as goal

pub returns : goal.returns
returns c = c.add_to_parts-step.ensures
