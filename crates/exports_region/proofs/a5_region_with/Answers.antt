-- `a5_region_with` meets its contract, where the table is 84 numbers long. Assumes nothing.
use mathlib.Core.Path.{◌≡◌, sym, ap, ◌∙◌}
use borrow.Author.Rules.{rules}
use Rattle.answer.specs.Answer.{given}
use Rattle.arithmetic.specs.Arith.{ieee}
use Rattle.set.specs.Set.{Set, set_of}
use Rattle.set.specs.Lent.{held}
use Rattle.region_work.specs.Region.{RegionCalled}
use Rattle.region_border.specs.Regions.{returned, in_c}
use Rattle.region_border.proofs.Told.{with_rows}
use Rattle.exports_region.proofs.a5_region_with.Goals as goal

pub returns : goal.returns
returns c =
    let a = c.args in
    let n = c.outlined.new in
    let rows = ap given (sym c.in-Ok.is) ∙ c.rows_or_20.ensures in
    let table = with_rows ieee a.table.now _ _ _ _ rows in
    let left : set_of a.frame.now c.face_store-1.given.0 c.sphere_store-1.given.0 ≡ held n.set = search rules in
    ap (λ (s : Set). returned c.outlined.result n.points n.origin n.caption s) left
    ∙ c.outlined.ensures.outlined ∙ ap (λ (r : RegionCalled). in_c r a.origin.now a.caption.now) (sym table)
