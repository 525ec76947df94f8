-- `Set::new` meets its contract: the vector is as long as is asked for. Assumes nothing.
use Rattle.std.proofs.Common.{sym, ◌∙◌}
use Rattle.replay_sets.proofs.noted.Set.new.Goals as goal

pub returns : goal.returns
returns c = sym c.in_ok-vec.field-0.ok.0 ∙ c.in_ok-vec.ensures.len
