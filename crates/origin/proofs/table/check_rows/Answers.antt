-- `table::check_rows` meets its contract: twelve rows that pass a test, each by its number, are every row. Assumes nothing.
use mathlib.Core.Path.{refl, sym, ◌∙◌}
use Rattle.std.proofs.Common.{rules, tests}
use Rattle.std.proofs.lemmas.Iterator.{YieldsList-from_range}
use Rattle.std.proofs.lemmas.Iterator.Search.{all_from_yields_List}
use Rattle.arithmetic.specs.Arith.{ieee}
use Rattle.origin.specs.Origins.{origin_at}
use Rattle.origin.specs.Table.{every_row, row_sound, numbers_sound, is_unit, unit_rows}
use Rattle.origin.proofs.Check.{gives_21, gives_22, passes}
use Rattle.origin.proofs.table.check_rows.Goals as goal

pub returns-then-not-all : goal.returns-then-not-all
unfolding every_row numbers_sound
returns-then-not-all c =
    let table = c.args.table.now in
    let sound =
    all_from_yields_List (λ k. row_sound (origin_at table k)) _ _ c.all.result c.all.ensures.ran (YieldsList-from_range 0 12 12 refl refl)
    (λ x b q k. search (rules, tests)) in
    gives_21 ieee table (sym sound ∙ c.if-not-all.true)

pub returns-then-not-all-2 : goal.returns-then-not-all-2
unfolding every_row numbers_sound unit_rows
returns-then-not-all-2 c =
    let table = c.args.table.now in
    let sound =
    all_from_yields_List (λ k. row_sound (origin_at table k)) _ _ c.all.result c.all.ensures.ran (YieldsList-from_range 0 12 12 refl refl)
    (λ x b q k. search (rules, tests)) in
    let unit =
    all_from_yields_List (λ k. is_unit ieee (origin_at table k).quat) _ _ c.all-2.result c.all-2.ensures.ran (YieldsList-from_range 0 12 12 refl refl)
    (λ x b q k. search (rules, tests)) in
    gives_22 ieee table (sym sound ∙ c.if-not-all.false) (sym unit ∙ c.if-not-all-2.true)

pub returns : goal.returns
unfolding every_row numbers_sound unit_rows
returns c =
    let table = c.args.table.now in
    let sound =
    all_from_yields_List (λ k. row_sound (origin_at table k)) _ _ c.all.result c.all.ensures.ran (YieldsList-from_range 0 12 12 refl refl)
    (λ x b q k. search (rules, tests)) in
    let unit =
    all_from_yields_List (λ k. is_unit ieee (origin_at table k).quat) _ _ c.all-2.result c.all-2.ensures.ran (YieldsList-from_range 0 12 12 refl refl)
    (λ x b q k. search (rules, tests)) in
    passes ieee table (sym sound ∙ c.if-not-all.false) (sym unit ∙ c.if-not-all-2.false)
