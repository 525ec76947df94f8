-- A set as the code lends it, to be read or to a call, and what it holds. Definitions only.
use Rattle.std.specs.Prelude.{◌≡◌}
use denote.Triple.Both.{Both}
use Rattle.answer.specs.Given.{Given}
use Rattle.set.specs.declared.set.Set.{Set as LentSet}
use Rattle.set.specs.declared.set.SetRef.{SetRef}
use Rattle.set.specs.Set.{Set, set_of}
use Rattle.set.specs.Outcome.{Outcome, Leaves}

-- what is read through a set that is lent to be read
abbrev pub seen : SetRef → Set
seen set = set_of set.frame.now set.face_store.now set.sphere_store.now

-- what a set that is lent to a call holds
abbrev pub held : LentSet → Set
held set = set_of set.frame.now set.face_store.now set.sphere_store.now

-- a lent set as it was and as it is: the same buffers are lent, and the frame is as it was
pub record SameBuffers (before : LentSet) (after : LentSet) : Type 0 where
  pub frame : after.frame ≡ before.frame
  pub faces : after.face_store.ghost_name ≡ before.face_store.ghost_name
  pub spheres : after.sphere_store.ghost_name ≡ before.sphere_store.ghost_name

-- what it held and what it holds
abbrev pub between : LentSet → LentSet → Both Set Set
between before after = record { entry = held before; exit = held after }

-- The contract of a call on a set that is lent to it, as one statement: its answer and what the set holds afterwards are those of
-- the definition `call`, and the same buffers are lent still.
pub record LeavesSet {X : Type 0} (before : LentSet) (after : LentSet) (given : Given X) (call : Set → Outcome X) : Type 0 where
  pub same : SameBuffers before after
  pub leaves : Leaves (between before after) given call
