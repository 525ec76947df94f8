-- `root::root_elsewhere` meets its contract. Assumes nothing.
use lib.Ieee.{of_bits}
use Rattle.square_root.proofs.RootBits.{below_zero, own_root}
use Rattle.square_root.proofs.root.root_elsewhere.Goals as goal

pub returns-then-x : goal.returns-then-x
unfolding of_bits
returns-then-x c = below_zero c.args.x c.if-x.true

pub returns-else-x : goal.returns-else-x
returns-else-x c = own_root c.args.x c.requires c.if-x.false
