-- Document 01, "Calls and their numbers": "Show takes the two stores, a store kind and a slot number. It hands back the
-- coordinates as a part of whichever store was named, or an empty part at the face store's start if the slot is empty or the
-- call refused; a companion call on the same arguments answers filled, empty or the refusal." Definitions only.
use Rattle.std.specs.Prelude.{ℕ, ◌+◌, ◌*◌, ◌≡◌, Bool, true, false, not, List, [], eqb, leb, length, Float}
use Rattle.std.specs.Borrow.{Bor}
use Rattle.answer.specs.Given.{Given, answered, refused, refuse_if}
use Rattle.set.specs.Sizes.{FACE_SLOTS, FACE_COORDINATES, FACE_WIDTH, FACE_STORE}
use Rattle.set.specs.Sizes.{SPHERE_SLOTS, SPHERE_COORDINATES, SPHERE_WIDTH, SPHERE_STORE}
use Rattle.stores.specs.Slots.{run, filled}
use Rattle.stores.specs.declared.show.StoreKind.{StoreKind}
use Rattle.stores.specs.declared.show.StoreKind.TheVariants as kind

-- ---- the store named

abbrev pub named : {X : Type 0} → StoreKind → X → X → X
named kind.Face faces spheres = faces
named kind.Sphere faces spheres = spheres

abbrev pub slots_in : StoreKind → ℕ
slots_in kind = named kind FACE_SLOTS SPHERE_SLOTS

abbrev pub width_in : StoreKind → ℕ
width_in kind = named kind FACE_WIDTH SPHERE_WIDTH

-- Paper 6: "Show still gives the nine coordinates"
abbrev pub coordinates_in : StoreKind → ℕ
coordinates_in kind = named kind FACE_COORDINATES SPHERE_COORDINATES

-- ---- the companion, on the two stores: 2, 3, and 10 for "slot 30 or more (face), 240 or more (sphere)"
unfoldable pub slot_given : List Float → List Float → StoreKind → ℕ → Given Bool
slot_given faces spheres kind k =
    refuse_if (not (eqb (length faces) FACE_STORE)) 2
    (refuse_if (not (eqb (length spheres) SPHERE_STORE)) 3
    (refuse_if (leb (slots_in kind) k) 10
    (answered (filled (named kind faces spheres) (k * width_in kind)))))

-- ---- show, by what the companion gives

-- the part's numbers: "six or nine coordinates", those behind the slot's mark
abbrev pub where_filled : Given Bool → List Float → List Float
where_filled (refused n) part = []
where_filled (answered false) part = []
where_filled (answered true) part = part

unfoldable pub part_shown : List Float → List Float → StoreKind → ℕ → List Float
part_shown faces spheres kind k =
    where_filled (slot_given faces spheres kind k)
    (run (named kind faces spheres) (k * width_in kind + 1) (coordinates_in kind))

-- where it lies: a part from element i of a store on starts 8 bytes further for each element before it
abbrev pub place_in : ℕ × ℕ → ℕ → ℕ × ℕ
place_in store i = (store.0, i * 8 + store.1)

abbrev pub place_shown : Given Bool → ℕ × ℕ → ℕ × ℕ → StoreKind → ℕ → ℕ × ℕ
place_shown (refused n) faces spheres kind k = place_in faces 0
place_shown (answered false) faces spheres kind k = place_in faces 0
place_shown (answered true) faces spheres kind k = place_in (named kind faces spheres) (k * width_in kind + 1)

-- ---- in a contract

-- the part of a store from element i on that has n numbers: what they are, and where they lie
pub record PartOf (store : Bor (List Float)) (i n : ℕ) (part : Bor (List Float)) : Type 0 where
  pub numbers : part.now ≡ run store.now i n
  pub place : part.ref_ptr ≡ place_in store.ref_ptr i

-- what show hands back
pub record Shows (faces spheres : Bor (List Float)) (kind : StoreKind) (k : ℕ) (part : Bor (List Float)) : Type 0 where
  pub numbers : part.now ≡ part_shown faces.now spheres.now kind k
  pub place : part.ref_ptr ≡ place_shown (slot_given faces.now spheres.now kind k) faces.ref_ptr spheres.ref_ptr kind k
