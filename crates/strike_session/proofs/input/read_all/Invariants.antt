-- The loop's invariant: the standing is what the reads came to, with what they did to the reader and the writer; lengths are as they were; no lines are lost;
-- and the reads that are left last for the bytes that the session can still take.
use Prim.Native.Nat.{ℕ, ◌-◌}
use Rattle.std.proofs.Common.{◌≡◌, ◌≤◌, false, length}
use Rattle.set.specs.Lent.{SameBuffers, held}
use Rattle.strike_session.specs.Steps.{state_of, Read, Passes, bytes_of, lines_of}
use Rattle.strike_session.proofs.Counted.{Counted}
use Rattle.strike_session.proofs.input.read_all.Given as goal

-- as many reads as the source has in READS
abbrev pub READS : ℕ
READS = 42949672960

abbrev pub invariant-loop-read : goal.invariant-loop-read
invariant-loop-read g l =
    (length l.buffer ≡ length l.initial.buffer)
    × (length l.out ≡ length l.initial.out)
    × (l.at.kept ≤ length l.buffer)
    × ((r : Read (length l.initial.buffer) (length l.initial.out)
    (state_of l.fn.stage 0 (held l.fn.set) l.initial.buffer)
    (state_of l.at.stage l.at.kept (held l.set) l.buffer))
    × Passes (g.R.Read.remaining l.initial.from) (g.R.Read.remaining l.from) (g.W.Write.contents l.initial.to) (g.W.Write.contents l.to)
    (bytes_of r) (lines_of r) l.at.lost)
    × (l.at.lost ≡ false)
    × Counted (READS - l._read) l.at.stage l.at.kept
    × SameBuffers l.fn.set l.set
