-- `Set::wrong` meets its contract: 0 only where the face store is as noted. Assumes nothing.
use Rattle.std.proofs.Common.{arith}
use Rattle.replay_sets.proofs.noted.Set.wrong.Goals as goal

pub returns-clause-face : goal.returns-clause-face
returns-clause-face c _ = rw (← c.deref-2.ensures.value) (c.unlike-in_face.ensures (omega (arith, c.if-in_face-gt0.false)))
