-- `ring::raise_count` meets its contract: below 12 the count goes up by one. Assumes nothing.
use Rattle.std.proofs.Common.{◌≡◌, ℕ, ◌+◌, ◌<◌, ◌%◌, ◌^◌, List, slice_index_or, slice_set, arith, sym}
use Rattle.window.specs.Ring.{raise}
use Rattle.window.proofs.ring.raise_count.Goals as goal

raised : (counts : List ℕ) (k : ℕ) → k < 12 → slice_set counts k ((slice_index_or counts k 0 + 1) % 2 ^ 32) ≡ raise counts k
unfolding raise
raised _ _ below = grind arith

pub returns-then-k-lt-ORIGINS : goal.returns-then-k-lt-ORIGINS
returns-then-k-lt-ORIGINS c = rw (sym c.from-k.ensures) (raised c.args.counts.now c.from-k.result c.if-k-lt-ORIGINS.true)
