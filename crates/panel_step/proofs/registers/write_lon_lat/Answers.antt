-- `registers::write_lon_lat` meets its contract. Assumes nothing.
use Rattle.panel.specs.Registers.{unplaced}
use Rattle.panel_step.proofs.registers.write_lon_lat.Goals as goal

pub returns : goal.returns
unfolding unplaced
returns c = c.done.ensures
