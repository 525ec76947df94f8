-- `registers::asked` meets its contract at a command that there isn't. Assumes nothing.
use Rattle.std.proofs.Common.{◌≡◌, sym, rules}
use Rattle.answer.specs.Given.{refused}
use Rattle.arithmetic.specs.Arith.{ieee}
use Rattle.panel.specs.Step.{command_in}
use Rattle.panel_step.proofs.registers.asked.Goals as goal

pub returns-in_default : goal.returns-in_default
unfolding command_in
returns-in_default c =
    let other : command_in ieee c.args.block.now ≡ refused 12 = search rules in
    sym other
