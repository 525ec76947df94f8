-- Words for what follows from the theorem, for a reader who tries the claim. Definitions only.
use Rattle.std.specs.Prelude.{ℕ, zero, suc, ◌+◌, ◌*◌, Bool, true, false, cond}
use Rattle.answer.specs.Given.{answered, refused}
use Rattle.set.specs.Set.{Set}
use Rattle.set.specs.Sizes.{FACE_SLOTS, FACE_WIDTH, SPHERE_SLOTS, SPHERE_WIDTH}
use Rattle.stores.specs.Slots.{filled}
use Rattle.histories.specs.Lists.{Effect, writes, uses, reads}
use Rattle.histories.specs.Since.{Slots}

-- how many of the slots 0 .. n - 1 are among some
unfoldable pub count : ℕ → Slots → ℕ
count zero u = 0
count (suc n) u = cond (u n) (suc (count n u)) (count n u)

-- how many slots of a set are filled
abbrev pub filled_slots : Set → ℕ
filled_slots s = count FACE_SLOTS (λ k. filled s.faces (k * FACE_WIDTH)) + count SPHERE_SLOTS (λ k. filled s.spheres (k * SPHERE_WIDTH))

-- the effect of a call that was refused
abbrev pub is_refused : Effect → Bool
is_refused (writes table (answered u)) = false
is_refused (writes table (refused n)) = true
is_refused (uses (answered us)) = false
is_refused (uses (refused n)) = true
is_refused reads = false
