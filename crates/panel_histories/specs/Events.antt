-- Document 02, Paper 11: lists "of host writes and steps on a set first opened with success and written only by our calls", other calls
-- among them. A step is lent the block and the set as they stand, and leaves what its contract has. Definitions only.
use Rattle.std.specs.Prelude.{ℕ, List}
use Rattle.arithmetic.specs.Arith.{ieee}
use Rattle.panel.specs.Step.{Panel, step_on}
use Rattle.histories.specs.Lists.{Standing, standing, Call, step}

-- a host write, which puts any bytes anywhere in the block, so that the block then is any list of bytes, whatever it was; a step; any other
-- call on the set, an open with its table too
pub data Event : Type 0 where
  host_writes : List ℕ → Event
  steps : Event
  calls : Call → Event

-- where a list stands: the block, and the set with the table that calls take
pub record State : Type 0 where
  pub block : List ℕ
  pub standing : Standing

abbrev pub state : List ℕ → Standing → State
state b s = record { block = b; standing = s }

-- what a step would leave there: its table is "that of the last open that answered"
abbrev pub stepped : State → Panel
stepped d = (step_on ieee d.standing.table d.standing.set d.block).left

abbrev pub next : State → Event → State
next d (host_writes b) = state b d.standing
next d steps = state (stepped d).block (standing d.standing.table (stepped d).set)
next d (calls c) = state d.block (step d.standing c)
