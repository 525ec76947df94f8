-- `origin::built_in` meets its contract: the code's table is the built-in one by its bits. Assumes nothing.
use mathlib.Core.Path.{sym}
use Rattle.origin.proofs.BuiltIn.{BITS, built_in}
use Rattle.origin.proofs.origin.built_in.Goals as goal

pub returns : goal.returns
unfolding BITS
returns c = sym built_in
