-- `CaptionBox::take_in` meets its contract where the point passes. Assumes nothing.
use mathlib.Core.Path.{◌≡◌, sym, ap, ◌∙◌}
use Rattle.answer.specs.Answer.{given}
use Rattle.answer.specs.Given.{Given, passed}
use Rattle.coordinates.specs.Conversions.{check_face}
use Rattle.caption_box.specs.Sides.{taken, box_after}
use Rattle.caption_box.proofs.CaptionBox.take_in.Goals as goal

pub returns : goal.returns
unfolding taken
returns c =
    let a = c.args in
    let passes : check_face a.point ≡ passed = sym c.check_face.ensures ∙ ap given c.in_ok-check_face.was in
    record { answer = sym passes; box = c.grow.ensures ∙ sym (ap (λ (g : Given (Unit {0})). box_after g a.self.now a.point) passes) }
