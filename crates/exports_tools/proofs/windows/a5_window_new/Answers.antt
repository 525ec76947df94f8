-- `windows::a5_window_new` meets its contract: the window is a new one. Assumes nothing.
use Rattle.exports_tools.proofs.windows.a5_window_new.Goals as goal

pub returns : goal.returns
returns c = c.new.ensures
