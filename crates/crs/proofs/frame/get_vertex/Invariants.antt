-- `frame::get_vertex` meets its contract. The loop's invariant: what is left of the frame gives the answer of the whole. Assumes nothing.
use mathlib.Core.Path.{◌≡◌}
use Prim.Native.Nat.{◌*◌}
use lib.ListN.{drop}
use Rattle.arithmetic.specs.Arith.{ieee}
use Rattle.crs.specs.Frame.{find_vertex}
use Rattle.crs.proofs.frame.get_vertex.Given as goal

abbrev pub invariant-loop-x : goal.invariant-loop-x
invariant-loop-x l = find_vertex ieee (drop (3 * l.x-index) l.frame) l.point ≡ find_vertex ieee l.frame l.point
