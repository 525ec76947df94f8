-- `Seen::new` meets its contract: its box is a new one. Assumes nothing.
use mathlib.Core.Path.{ap}
use mathlib.Core.Bool.{false}
use Rattle.caption_box.specs.declared.CaptionBox.{CaptionBox}
use Rattle.region_work.specs.declared.seen.Seen.{Seen}
use Rattle.region_work.proofs.seen.Seen.new.Goals as goal

seen_round : CaptionBox → Seen
seen_round box = record { origin = 0; differ = false; pending = false; bounds = box }

pub returns : goal.returns
unfolding seen_round
returns c = ap seen_round c.new.ensures
