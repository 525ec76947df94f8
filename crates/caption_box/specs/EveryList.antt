-- Document 02, Paper 3, over any list of points: what the sides of the box are, when it is empty, and that the order doesn't matter. Definitions only.
use Rattle.std.specs.Prelude.{◌≡◌, Bool, true, false, not, T, Float}
use mathlib.Core.List.{List, [], ◌∷◌, Memᴰ, Perm}
use Rattle.std.specs.Float.Ieee.{eq}
use Rattle.answer.specs.Given.{passed}
use Rattle.coordinates.specs.declared.coords.Face.{Face}
use Rattle.coordinates.specs.Conversions.{check_face}
use Rattle.caption_box.specs.declared.CaptionBox.{CaptionBox}
use Rattle.caption_box.specs.Sides.{new_box, below, above, grown, taken}

-- a box after a list of calls, first to last, accepted points and refused ones
unfoldable pub taken_all : CaptionBox → List Face → CaptionBox
taken_all b [] = b
taken_all b (p ∷ ps) = taken_all (taken b p) ps

-- the box that starts new
abbrev pub box_of : List Face → CaptionBox
box_of ps = taken_all new_box ps

-- the same without a check, as Paper 4 takes an outline's points in
unfoldable pub grown_all : CaptionBox → List Face → CaptionBox
grown_all b [] = b
grown_all b (p ∷ ps) = grown_all (grown b p) ps

-- a point taken in: one of the list, and not refused
pub record TakenIn (ps : List Face) (p : Face) : Type 0 where
  pub one_of : Memᴰ p ps
  pub accepted : check_face p ≡ passed

abbrev pub x_of : Face → Float
x_of p = p.0.x

abbrev pub y_of : Face → Float
y_of p = p.0.y

-- "the least and greatest coordinates taken in": the side is one of them, and none is beyond it. `In` says which points were taken in.
pub record Side (In : Face → Type 0) (coordinate : Face → Float) (beyond : Float → Float → Bool) (side : Float) : Type 0 where
  pub point : Face
  pub taken_in : In point
  pub is_side : side ≡ coordinate point
  pub none_beyond : (p : Face) → In p → T (not (beyond (coordinate p) side))

pub record FourSides (In : Face → Type 0) (b : CaptionBox) : Type 0 where
  pub least_x : Side In x_of below b.least_x
  pub greatest_x : Side In x_of above b.greatest_x
  pub least_y : Side In y_of below b.least_y
  pub greatest_y : Side In y_of above b.greatest_y

-- both boxes are empty, or neither is and their sides are equal as numbers, for which −0 and +0 are one
pub record SameSides (b c : CaptionBox) : Type 0 where
  pub alike_empty : b.empty ≡ c.empty
  pub least_x : b.empty ≡ false → T (eq b.least_x c.least_x)
  pub greatest_x : b.empty ≡ false → T (eq b.greatest_x c.greatest_x)
  pub least_y : b.empty ≡ false → T (eq b.least_y c.least_y)
  pub greatest_y : b.empty ≡ false → T (eq b.greatest_y c.greatest_y)

pub record EveryList : Type 0 where
  -- "A new box is empty .. until the first point": it is empty exactly if no point was taken in
  pub empty_holds_none : (ps : List Face) → (box_of ps).empty ≡ true → (p : Face) → TakenIn ps p → ⊥
  pub none_leaves_empty : (ps : List Face) → ((p : Face) → TakenIn ps p → ⊥) → (box_of ps).empty ≡ true
  -- "Afterwards its four sides are the least and greatest coordinates taken in."
  pub sides : (ps : List Face) → (box_of ps).empty ≡ false → FourSides (TakenIn ps) (box_of ps)
  -- "Over any list of points, the order doesn't alter the sides as numbers": `Perm` is the library's relation of a list and any rearrangement of it
  pub any_order : (ps qs : List Face) → Perm ps qs → SameSides (box_of ps) (box_of qs)
