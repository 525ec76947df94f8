-- `survey::survey` meets its contract: one turn of its loop. Assumes nothing.
use Rattle.std.proofs.Common.{◌<◌, length, sym, ap, ◌∙◌, arith, rules}
use Rattle.answer.specs.Answer.{given}
use Rattle.arithmetic.specs.Arith.{ieee}
use Rattle.list_calls.proofs.Loop.{nowhere}
use Rattle.region_work.proofs.Loops.{survey_goes}
use Rattle.list_calls.proofs.survey.survey.Goals as goal

pub loop-i-preserved : goal.loop-i-preserved
loop-i-preserved g c =
    let a = c.args in
    let table = g.O.Origins.table a.origins.now in
    let next : c.loop-i.i < length a.positions.now = omega arith in
    let long : c.loop-i.i < length c.loop-i.points = omega (arith, c.loop-i.invariant.0) in
    let placed = sym c.place_work.ensures ∙ ap given c.in_ok-done.was in
    let goes = survey_goes ieee table _ _ _ _ a.positions.now nowhere next _ _ _ long placed in
    (search rules, goes c.slot_empty-empty.ensures c.take_in.ensures ∙ c.loop-i.invariant.1)
