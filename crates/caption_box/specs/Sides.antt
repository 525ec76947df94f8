-- Document 02, Paper 3: "The box is lent to the call and grows where it is to take in one more face point." Definitions only.
use Rattle.std.specs.Prelude.{◌≡◌, Bool, true, false, cond, Float}
use Rattle.std.specs.Float.Ieee.{lt}
use Rattle.answer.specs.Given.{Given, answered, refused}
use Rattle.arithmetic.specs.Numbers.{0·0}
use Rattle.coordinates.specs.declared.coords.Face.{Face}
use Rattle.coordinates.specs.Conversions.{check_face}
use Rattle.caption_box.specs.declared.CaptionBox.{CaptionBox}

-- "A new box is empty and its corners mean nothing until the first point." They are +0.0, so that a new box is a value.
abbrev pub new_box : CaptionBox
new_box = record { least_x = 0·0; greatest_x = 0·0; least_y = 0·0; greatest_y = 0·0; empty = true }

-- "strictly beyond it": below a least side, above a greatest one. The coordinate is named first.
abbrev pub below : Float → Float → Bool
below coordinate side = lt coordinate side

abbrev pub above : Float → Float → Bool
above coordinate side = lt side coordinate

-- "A later point replaces a side exactly when its coordinate is strictly beyond it."
abbrev pub replaced : (Float → Float → Bool) → Float → Float → Float
replaced beyond side coordinate = cond (beyond coordinate side) coordinate side

-- the box that the first point makes: all four sides are the point's
abbrev pub one_point : Face → CaptionBox
one_point p = record { least_x = p.0.x; greatest_x = p.0.x; least_y = p.0.y; greatest_y = p.0.y; empty = false }

-- the box that a later point leaves
unfoldable pub later_point : CaptionBox → Face → CaptionBox
later_point b p =
    record {
      least_x = replaced below b.least_x p.0.x;
      greatest_x = replaced above b.greatest_x p.0.x;
      least_y = replaced below b.least_y p.0.y;
      greatest_y = replaced above b.greatest_y p.0.y;
      empty = false;
    }

-- one more point taken in, whatever its coordinates: this is what Paper 4's box does, "here without the ±4 limit"
unfoldable pub grown : CaptionBox → Face → CaptionBox
grown b p = cond b.empty (one_point p) (later_point b p)

-- "Non-finite points get 5, those beyond ±4 get 6, in 01's order, and the box then keeps its sides": `check_face` tries x, then y, each for 5 and then 6
abbrev pub box_after : Given (Unit {0}) → CaptionBox → Face → CaptionBox
box_after (answered u) b p = grown b p
box_after (refused n) b p = b

unfoldable pub taken : CaptionBox → Face → CaptionBox
taken b p = box_after (check_face p) b p

-- what the call gives, and the box that it leaves
pub record TakesIn (given : Given (Unit {0})) (after before : CaptionBox) (p : Face) : Type 0 where
  pub answer : given ≡ check_face p
  pub box : after ≡ taken before p
