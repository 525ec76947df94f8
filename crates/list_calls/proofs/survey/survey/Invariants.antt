-- `survey::survey` meets its contract. The loop's invariant: the points so far, with the survey of what is still to come from what is known so far,
-- are the survey of all.
use mathlib.Core.Path.{◌≡◌}
use lib.ListN.{length}
use Rattle.arithmetic.specs.Arith.{ieee}
use Rattle.set.specs.Lent.{seen}
use Rattle.region_work.specs.Parts.{nothing_seen, survey_of}
use Rattle.region_work.proofs.Loops.{going}
use Rattle.list_calls.proofs.survey.survey.Given as goal

abbrev pub invariant-loop-i : goal.invariant-loop-i
invariant-loop-i g l =
    let table = g.O.Origins.table l.origins in
    (length l.points ≡ 256)
    × (going ieee table (seen l.set) l.seen l.points l.i l.positions ≡ survey_of ieee table (seen l.set) nothing_seen l.positions)
