-- `root_digits::digits_from` meets its contract. The loop's invariant is `Found`, and its measure is the weight of the next digit. Assumes nothing.
use Rattle.std.proofs.Common.{◌*◌, ◌^◌}
use Rattle.square_root.specs.Digits.{Found}
use Rattle.square_root.proofs.root_digits.digits_from.Given as goal

abbrev pub invariant-loop-y : goal.invariant-loop-y
invariant-loop-y l = Found (l.m * 2 ^ 52) l.t l.y l.r l.rounds

abbrev pub decreases-loop-y : goal.decreases-loop-y
decreases-loop-y l = l.r
