-- `registers::write_refusal` meets its contract. Assumes nothing.
use Rattle.panel.specs.Registers.{refused_with}
use Rattle.panel_step.proofs.registers.write_refusal.Goals as goal

pub returns : goal.returns
unfolding refused_with
returns c = c.end.ensures
