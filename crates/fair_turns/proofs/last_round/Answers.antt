-- `last_round` meets its contract. The loop's invariant: the grants written, followed by the round over channel i and those behind it, are the round
-- over all. Assumes nothing.
use mathlib.Core.Path.{sym, ap, ◌∙◌}
use Prim.Native.Nat.{min}
use native.Mathlib.Omega.{arith}
use lib.ListN.{get_or, length-set}
use Rattle.turns.specs.Turns.{still_short}
use Rattle.turns.proofs.Rounds.{within_wish}
use Rattle.turns.proofs.Passes.{write_next, write_end}
use Rattle.fair_turns.proofs.last_round.Goals as goal

pub overflow_add-grants : goal.overflow_add-grants
overflow_add-grants c =
    let wishes = c.args.wishes.now in
    omega (
      arith,
      within_wish c.loop-i.left (get_or wishes c.loop-i.i 0) c.args.level,
      c.min-one.ensures ∙ ap (min c.loop-i.left) (c.still_short.ensures ∙ ap (still_short _) c.min-grant.ensures),
      c.min-grant.ensures,
      c.type_inv.wishes c.loop-i.i,
    )

pub loop-i-preserved : goal.loop-i-preserved
loop-i-preserved c =
    let loop = c.loop-i in
    let next = write_next c.args.wishes.now loop.grants loop.i loop.left c.args.level (omega arith) (omega arith) in (
      simp length-set loop.invariant.0,
      rw (c.min-one.ensures, c.still_short.ensures, c.min-grant.ensures) (next ∙ loop.invariant.1),
    )

pub returns : goal.returns
returns c =
    let loop = c.loop-i in
    sym (write_end c.args.wishes.now loop.grants loop.i loop.left c.args.level (omega arith) (omega arith)) ∙ loop.invariant.1
