-- `windows::a5_window_kept` meets its contract: what the window has. Assumes nothing.
use mathlib.Core.Path.{refl}
use Rattle.exports_tools.proofs.windows.a5_window_kept.Goals as goal

pub returns : goal.returns
returns c = refl
