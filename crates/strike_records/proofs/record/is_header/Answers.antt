-- `record::is_header` meets its contract. Assumes nothing.
use mathlib.Core.Path.{◌∙◌}
use borrow.Author.Tests.{le-ltb}
use Rattle.answer.proofs.Bytes.{marked}
use Rattle.strike_records.specs.Record.{headed}
use Rattle.strike_records.proofs.record.is_header.Goals as goal

pub returns : goal.returns
unfolding headed
returns c =
    c.starts_with.ensures.value ∙ rw (le-ltb _ 5 c.requires) (marked c.args.input.now 69 65 68 0 1 c.requires)
