-- `slots::is_filled` meets its contract. Assumes nothing.
use mathlib.Core.Path.{refl, ◌∙◌}
use borrow.Author.Tests.{le-ltb}
use lib.ListN.{get_or-eq_default}
use lib.Ieee.{of_bits, eq, nan}
use Rattle.stores.specs.Slots.{filled}
use Rattle.stores.proofs.slots.is_filled.Goals as goal

pub returns-then-at-store : goal.returns-then-at-store
unfolding filled of_bits
returns-then-at-store c = refl

pub returns-else-at-store : goal.returns-else-at-store
unfolding filled eq
returns-else-at-store c = le-ltb _ _ c.if-at-store.false ∙ rw (get_or-eq_default c.args.store.now nan c.if-at-store.false)
