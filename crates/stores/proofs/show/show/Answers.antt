-- `show::show` meets its contract: the part's numbers, and where it lies. Assumes nothing.
use mathlib.Core.Path.{sym, ◌∙◌}
use native.Mathlib.Omega.{arith}
use Rattle.stores.specs.Show.{part_shown}
use Rattle.stores.proofs.ShowFits.{slot_lies, said_filled, no_part}
use Rattle.stores.proofs.show.show.Goals as goal

pub overflow_mul-slot : goal.overflow_mul-slot
overflow_mul-slot c =
    let filled = said_filled c.slot_state.result c.slot_state.ensures c.unwrap_or.ensures c.if-unwrap_or.true in
    rw c.width.ensures (omega (arith, (slot_lies _ _ _ _ _ filled).start))

pub coordinates-requires-then-unwrap_or : goal.coordinates-requires-then-unwrap_or
coordinates-requires-then-unwrap_or c =
    let filled = said_filled c.slot_state.result c.slot_state.ensures c.unwrap_or.ensures c.if-unwrap_or.true in
    rw (c.width.ensures, c.coordinates.ensures, c.store-store.ensures.numbers) (slot_lies _ _ _ _ _ filled).part

pub returns-then-unwrap_or : goal.returns-then-unwrap_or
unfolding part_shown
returns-then-unwrap_or c =
    let filled = said_filled c.slot_state.result c.slot_state.ensures c.unwrap_or.ensures c.if-unwrap_or.true in
    let part = c.coordinates-then-unwrap_or.ensures in
    record {
      numbers = simp filled (rw (c.width.ensures, c.coordinates.ensures, c.store-store.ensures.numbers) at part.numbers);
      place = simp filled (rw (c.width.ensures, c.store-store.ensures.place) at part.place);
    }

pub returns-else-unwrap_or : goal.returns-else-unwrap_or
unfolding part_shown
returns-else-unwrap_or c =
    let empty = no_part c.slot_state.result (sym c.unwrap_or.ensures ∙ c.if-unwrap_or.false) in
    record {
      numbers = rw (sym c.slot_state.ensures) (sym (empty.numbers _));
      place = rw (sym c.slot_state.ensures) (sym (empty.place _ _ _ _));
    }
