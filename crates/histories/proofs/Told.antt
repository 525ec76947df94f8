-- The slots that have been used and the frame that the last answered open wrote, told along a list call by call: what the proofs go by.
-- That the frame told is the one of `last_opened`, and the table that calls take the one of that open. Assumes nothing.
use mathlib.Core.Path.{◌≡◌, refl}
use mathlib.Core.Bool.{false, cond, ◌||◌}
use mathlib.Core.List.{List, [], ◌∷◌}
use lib.Ieee.{Float}
use Rattle.answer.specs.Given.{answered, refused}
use Rattle.set.specs.Set.{Set}
use Rattle.histories.specs.Lists.{Standing, Call, Effect, writes, uses, reads, effect, after, step, run}
use Rattle.histories.specs.Since.{Slots, faces_of, spheres_of, is_opened, last_opened}
use Rattle.histories.specs.EveryList.{opened, left, last_open}

pub record Since : Type 0 where
  pub frame : List Float
  pub faces : Slots
  pub spheres : Slots

-- the set s has just been opened
abbrev pub newly : Standing → Since
newly s = record { frame = s.set.frame; faces = λ k. false; spheres = λ k. false }

-- after one call more, which has left the set s
abbrev pub counted : Since → Effect → Standing → Since
counted w (writes table (answered u)) s = newly s
counted w (writes table (refused n)) s = w
counted w (uses g) s = record { frame = w.frame; faces = λ k. w.faces k || faces_of g k; spheres = λ k. w.spheres k || spheres_of g k }
counted w reads s = w

abbrev pub since : Since → Standing → List Call → Since
since w s [] = w
since w s (c ∷ cs) = since (counted w (effect s c) (step s c)) (step s c) cs

-- since the open that the list starts from
abbrev pub since_open : List Float → Set → List Call → Since
since_open t b cs = since (newly (opened t b)) (opened t b) cs

frame_told : (cs : List Call) (w : Since) (t s : Standing) → w.frame ≡ t.set.frame → (since w s cs).frame ≡ (last_opened t s cs).set.frame
frame_told [] w t s e = e
frame_told (c ∷ cs) w t s e = frame_told cs (counted w (effect s c) (step s c)) (cond (is_opened (effect s c)) (step s c) t) (step s c) (next (effect s c))
  where
    next : (f : Effect) → (counted w f (step s c)).frame ≡ (cond (is_opened f) (step s c) t).set.frame
    next (writes table (answered u)) = refl
    next (writes table (refused n)) = e
    next (uses g) = e
    next reads = e

pub frame_opened : (t : List Float) (b : Set) (cs : List Call) → (since_open t b cs).frame ≡ (last_open t b cs).set.frame
frame_opened t b cs = frame_told cs (newly (opened t b)) (opened t b) (opened t b) refl

table_told : (cs : List Call) (t s : Standing) → s.table ≡ t.table → (run s cs).table ≡ (last_opened t s cs).table
table_told [] t s e = e
table_told (c ∷ cs) t s e = table_told cs (cond (is_opened (effect s c)) (step s c) t) (step s c) (next (effect s c))
  where
    next : (f : Effect) → (after s f).table ≡ (cond (is_opened f) (after s f) t).table
    next (writes table (answered u)) = refl
    next (writes table (refused n)) = e
    next (uses g) = e
    next reads = e

pub table_opened : (t : List Float) (b : Set) (cs : List Call) → (left t b cs).table ≡ (last_open t b cs).table
table_opened t b cs = table_told cs (opened t b) (opened t b) refl
