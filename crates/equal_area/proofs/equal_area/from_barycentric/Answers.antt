-- `equal_area::from_barycentric` meets its contract. Assumes nothing.
use lib.Ieee.{of_bits}
use Rattle.equal_area.specs.EqualArea.{from_barycentric}
use Rattle.equal_area.proofs.equal_area.from_barycentric.Goals as goal

pub returns-then-bary-threshold : goal.returns-then-bary-threshold
unfolding from_barycentric of_bits
returns-then-bary-threshold c = rw (c.if-bary-threshold.true, from_barycentric)

pub returns-then-bary-threshold-2 : goal.returns-then-bary-threshold-2
unfolding from_barycentric of_bits
returns-then-bary-threshold-2 c =
    rw (c.if-bary-threshold.false, from_barycentric) (rw c.if-bary-threshold-2.true)

pub returns-then-bary-threshold-3 : goal.returns-then-bary-threshold-3
unfolding from_barycentric of_bits
returns-then-bary-threshold-3 c =
    rw (c.if-bary-threshold.false, from_barycentric) (rw (c.if-bary-threshold-2.false, c.if-bary-threshold-3.true))

pub returns : goal.returns
unfolding from_barycentric of_bits
returns c =
    rw (c.if-bary-threshold.false, from_barycentric) (rw (c.if-bary-threshold-2.false, c.if-bary-threshold-3.false) c.inside.ensures)
