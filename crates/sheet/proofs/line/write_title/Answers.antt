-- `line::write_title` meets its contract. Assumes nothing.
use mathlib.Core.Path.{ap, ◌∙◌}
use mathlib.Core.List.{List, ◌++◌}
use Prim.Native.Nat.{ℕ}
use lib.ListN.{drop}
use Rattle.sheet.specs.Page.{TITLE, line}
use Rattle.sheet.proofs.line.write_title.Goals as goal

pub returns : goal.returns
unfolding line
returns c =
    c.write_text.ensures ∙ ap (λ (l : List ℕ). TITLE ++ drop 12 l) c.write_blank.ensures
