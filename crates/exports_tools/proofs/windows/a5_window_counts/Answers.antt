-- `windows::a5_window_counts` meets its contract: what the window has. Assumes nothing.
use mathlib.Core.Path.{refl}
use Rattle.exports_tools.proofs.windows.a5_window_counts.Goals as goal

pub returns : goal.returns
returns c = refl
