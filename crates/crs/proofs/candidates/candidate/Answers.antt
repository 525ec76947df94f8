-- `candidates::candidate` meets its contract. Assumes nothing.
use borrow.Author.Tests.{lt-ltb, le-ltb}
use Rattle.crs.specs.Candidates.{candidate}
use Rattle.crs.proofs.candidates.candidate.Goals as goal

pub returns-then-k-lt12 : goal.returns-then-k-lt12
unfolding candidate
returns-then-k-lt12 c = rw (lt-ltb _ _ c.if-k-lt12.true, candidate) c.face_center.ensures

pub returns-then-k-lt72 : goal.returns-then-k-lt72
unfolding candidate
returns-then-k-lt72 c = rw (le-ltb _ _ c.if-k-lt12.false, candidate) (rw (lt-ltb _ _ c.if-k-lt72.true) c.vertex.ensures)

pub returns : goal.returns
unfolding candidate
returns c = rw (le-ltb _ _ c.if-k-lt12.false, candidate) (rw (le-ltb _ _ c.if-k-lt72.false) c.midpoint.ensures)
