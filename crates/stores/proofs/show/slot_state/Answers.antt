-- `show::slot_state` meets its contract: a wrong length of the face store is 2. Assumes nothing.
use mathlib.Core.Path.{refl}
use borrow.Author.Tests.{ne_eqb}
use Rattle.stores.specs.Show.{slot_given}
use Rattle.stores.proofs.show.slot_state.Goals as goal

pub returns-then-face_store-ne-FACE_STORE : goal.returns-then-face_store-ne-FACE_STORE
unfolding slot_given
returns-then-face_store-ne-FACE_STORE c = rw (ne_eqb _ _ c.if-face_store-ne-FACE_STORE.true) refl
