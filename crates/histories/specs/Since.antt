-- "when a call answered since the last successful open, the one the list starts from included, has used it": the slots that a call uses,
-- those that a list has used and no later open has emptied, and the set that the last answered open has left, with its table.
-- Definitions only.
use Rattle.std.specs.Prelude.{ℕ, ◌≡◌, Bool, true, false, cond, ◌||◌, List, [], ◌∷◌, eqb}
use Rattle.answer.specs.Given.{Given, answered, refused}
use Rattle.stores.specs.Slots.{face_slot, source_slot, sphere_slot}
use Rattle.stores.specs.declared.used.Used.{Used}
use Rattle.histories.specs.Lists.{Standing, Call, Effect, writes, uses, reads, effect, step}

-- some slots of a store, by their numbers
abbrev pub Slots : Type 0
Slots = ℕ → Bool

-- ---- the slots that one call uses

-- "An unreflected call uses face slot i and its sphere slot; a reflected one uses 10+i, 20+i and its sphere slot."
abbrev pub faces_at : ℕ → Bool → Slots
faces_at i false k = eqb k (face_slot i false)
faces_at i true k = eqb k (face_slot i true) || eqb k (source_slot i true)

abbrev pub spheres_at : ℕ → ℕ → Bool → Slots
spheres_at o i r k = eqb k (sphere_slot o i r)

-- "each place or unplace that it carries counts for itself"
abbrev pub faces_in : List Used → Slots
faces_in [] k = false
faces_in (u ∷ us) k = faces_at u.index u.reflected k || faces_in us k

abbrev pub spheres_in : List Used → Slots
spheres_in [] k = false
spheres_in (u ∷ us) k = spheres_at u.origin u.index u.reflected k || spheres_in us k

-- "A refused call uses none"
abbrev pub faces_of : Given (List Used) → Slots
faces_of (refused n) k = false
faces_of (answered us) k = faces_in us k

abbrev pub spheres_of : Given (List Used) → Slots
spheres_of (refused n) k = false
spheres_of (answered us) k = spheres_in us k

-- open uses none, nor does a call that only reads; over one of the two stores
abbrev pub used_by : (Given (List Used) → Slots) → Effect → Slots
used_by of (writes table g) k = false
used_by of (uses g) k = of g k
used_by of reads k = false

abbrev pub faces_used : Effect → Slots
faces_used = used_by faces_of

abbrev pub spheres_used : Effect → Slots
spheres_used = used_by spheres_of

-- ---- since the last answered open

-- the effect of an open that answered
abbrev pub is_opened : Effect → Bool
is_opened (writes table (answered u)) = true
is_opened (writes table (refused n)) = false
is_opened (uses g) = false
is_opened reads = false

-- no open of a list answers
abbrev pub NoneOpened : Standing → List Call → Type 0
NoneOpened s [] = Unit {0}
NoneOpened s (c ∷ cs) = (is_opened (effect s c) ≡ false) × NoneOpened (step s c) cs

-- One call of a list uses the slot k, and after it no open of the list answers. The slots that an effect uses are those of a store.
pub data UsedLast (used : Effect → Slots) (k : ℕ) : Standing → List Call → Type 0 where
  here : {s : Standing} {c : Call} {cs : List Call} → used (effect s c) k ≡ true → NoneOpened (step s c) cs → UsedLast used k s (c ∷ cs)
  later : {s : Standing} {c : Call} {cs : List Call} → UsedLast used k (step s c) cs → UsedLast used k s (c ∷ cs)

-- the set as the last answered open of a list has left it, and its table: t, where none of it answers
abbrev pub last_opened : Standing → Standing → List Call → Standing
last_opened t s [] = t
last_opened t s (c ∷ cs) = last_opened (cond (is_opened (effect s c)) (step s c) t) (step s c) cs
