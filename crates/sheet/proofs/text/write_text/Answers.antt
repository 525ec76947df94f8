-- `text::write_text` meets its contract: what stood behind the text stays there. Assumes nothing.
use Rattle.std.proofs.Common.{ℕ, List, ◌++◌, length, drop, ap}
use Rattle.sheet.proofs.text.write_text.Goals as goal

pub returns : goal.returns
returns c = ap (λ (text : List ℕ). text ++ drop (length c.args.text.now) c.args.line.now) c.copy_from_slice.ensures.after
