-- `tiling::get_quintant_vertices` meets its contract: its line of the table is what the definition computes. Assumes nothing.
use Rattle.tiling.proofs.Figure.{line, line_is}
use Rattle.tiling.proofs.tiling.get_quintant_vertices.Goals as goal

pub returns : goal.returns
unfolding line
returns c = line_is c.args.quintant c.requires
