-- `root_digits::no_digits` meets its contract. Assumes nothing.
use Rattle.std.proofs.Common.{refl}
use Rattle.square_root.proofs.Round.{none_found}
use Rattle.square_root.proofs.root_digits.no_digits.Goals as goal

pub returns : goal.returns
returns c = (none_found c.args.m c.requires.0 c.requires.1, refl)
