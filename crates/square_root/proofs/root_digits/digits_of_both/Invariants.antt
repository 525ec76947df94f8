-- `root_digits::digits_of_both` meets its contract. The loop's invariant is `Found` of each root, at one weight and one count of rounds; its measure is
-- the weight of the next digit. Assumes nothing.
use Rattle.std.proofs.Common.{◌*◌, ◌^◌}
use Rattle.square_root.specs.Digits.{Found}
use Rattle.square_root.proofs.root_digits.digits_of_both.Given as goal

abbrev pub invariant-loop-r : goal.invariant-loop-r
invariant-loop-r l = Found (l.m * 2 ^ 52) l.t l.y l.r l.rounds × Found (l.n * 2 ^ 52) l.u l.z l.r l.rounds

abbrev pub decreases-loop-r : goal.decreases-loop-r
decreases-loop-r l = l.r
