-- `equal_area::at_angle` meets its contract: what sine answers decides. Assumes nothing.
use Rattle.std.proofs.Common.{rules}
use Rattle.equal_area.specs.EqualArea.{at_angle}
use Rattle.equal_area.proofs.equal_area.at_angle.Goals as goal

pub returns-in_err-s : goal.returns-in_err-s
unfolding at_angle
returns-in_err-s c = search rules

pub returns : goal.returns
unfolding at_angle
returns c = simp (← c.sin_cos.ensures, c.in_ok-s.was, c.between.ensures, c.point_p.ensures)
