-- `find_nearest_origin` meets its contract: the built-in table's method has it. Assumes nothing.
use Rattle.nearest.proofs.find_nearest_origin.Goals as goal

pub returns : goal.returns
returns c = c.find_nearest_origin.ensures
