-- The caption box as a C function: the number that it returns, and the box that it leaves. Definitions only.
use Rattle.std.specs.Prelude.{◌≡◌, ℕ}
use Rattle.coordinates.specs.declared.coords.Face.{Face}
use Rattle.coordinates.specs.Conversions.{check_face}
use Rattle.caption_box.specs.declared.CaptionBox.{CaptionBox}
use Rattle.caption_box.specs.Sides.{taken}
use Rattle.answer.specs.Given.{status}

pub record BoxTakes (returned : ℕ) (after before : CaptionBox) (p : Face) : Type 0 where
  pub answer : returned ≡ status (check_face p)
  pub box : after ≡ taken before p
