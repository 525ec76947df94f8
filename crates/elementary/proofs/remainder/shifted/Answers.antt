-- `remainder::shifted` meets its contract. The loop's invariant: r is below 2 ^ 53, and with the j places to come it leaves what m with all k does. The
-- measure is j. Assumes nothing.
use mathlib.Core.Path.{◌∙◌}
use native.Mathlib.Nat.{lt_trans, mod-lt}
use native.Mathlib.Omega.{arith}
use Rattle.elementary.proofs.RemainderPlaces.{step, last}
use Rattle.elementary.proofs.remainder.shifted.Goals as goal

pub loop-j-preserved : goal.loop-j-preserved
loop-j-preserved c =
    let l = c.loop-j in
    (lt_trans (mod-lt _ c.requires.1) c.requires.2, step l.r c.args.n 11 l.j l.invariant.0 (omega arith) (omega arith) ∙ l.invariant.1)

pub returns : goal.returns
returns c = let l = c.loop-j in last l.r c.args.n l.j l.invariant.0 (omega arith) ∙ l.invariant.1
