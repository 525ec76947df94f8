-- What `a5_show` leaves is the part that show hands back. Where it answers, so many numbers of the store named, from the offset on, are
-- show's part; and for a filled slot they lie where show's part lies. Assumes nothing.
use mathlib.Core.Path.{◌≡◌, refl}
use mathlib.Core.Bool.{Bool, true, false}
use mathlib.Core.List.{List}
use Prim.Native.Nat.{ℕ}
use lib.ListN.{get_or}
use lib.Ieee.{Float}
use Rattle.answer.specs.Given.{answered}
use Rattle.stores.specs.Slots.{run}
use Rattle.stores.specs.Show.{named, slot_given, part_shown, place_in, place_shown}
use Rattle.stores.specs.declared.show.StoreKind.{StoreKind}
use Rattle.border.specs.Returns.{written}
use Rattle.exports.specs.Slots as slots

-- the numbers of a store that an offset and a length name
abbrev numbers_of : List Float → List ℕ → List Float
numbers_of store part = run store (get_or part 0 0) (get_or part 1 0)

module _ (face sphere : List Float) (s : StoreKind) (k : ℕ) (old : List ℕ) where
  abbrev part : List ℕ
  part = written (slots.part s k) (slot_given face sphere s k) old

  pub same_numbers : (b : Bool) → slot_given face sphere s k ≡ answered b → numbers_of (named s face sphere) part ≡ part_shown face sphere s k
  unfolding part_shown
  same_numbers true e = rw e refl
  same_numbers false e = rw e refl

  pub same_place : (faceAt sphereAt : ℕ × ℕ) → slot_given face sphere s k ≡ answered true →
      place_in (named s faceAt sphereAt) (get_or part 0 0) ≡ place_shown (slot_given face sphere s k) faceAt sphereAt s k
  same_place faceAt sphereAt e = rw e refl
