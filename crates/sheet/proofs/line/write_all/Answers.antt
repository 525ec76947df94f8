-- `line::write_all` meets its contract. Assumes nothing.
use mathlib.Core.Path.{ap, ◌∙◌}
use mathlib.Core.List.{List, ◌++◌}
use Prim.Native.Nat.{ℕ}
use native.Mathlib.Omega.{arith}
use lib.ListN.{drop}
use Rattle.sheet.specs.Page.{ALL}
use Rattle.sheet.proofs.Lines.{with_number}
use Rattle.sheet.proofs.line.write_all.Goals as goal

pub returns : goal.returns
returns c =
    let a = c.args in
    let named-is = c.write_text.ensures ∙ ap (λ (l : List ℕ). ALL ++ drop 3 l) c.write_blank.ensures in
    with_number ALL _ _ a.all (omega arith) named-is c.write_number.ensures
