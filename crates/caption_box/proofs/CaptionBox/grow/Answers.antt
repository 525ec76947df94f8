-- `CaptionBox::grow` meets its contract at a later point. Assumes nothing.
use mathlib.Core.Path.{◌≡◌, refl}
use Rattle.caption_box.specs.Sides.{grown, later_point, below, replaced}
use Rattle.caption_box.proofs.CaptionBox.grow.Goals as goal

pub returns : goal.returns
unfolding grown later_point
returns c =
    let b = c.args.self.now in
    let p = c.args.point in
    let least_x : c.replaced-self.result ≡ replaced below b.least_x p.0.x = c.replaced-self.ensures in
    let least_y : c.replaced-self-3.result ≡ replaced below b.least_y p.0.y = c.replaced-self-3.ensures in
    rw (c.if-self.false, least_x, c.replaced-self-2.ensures, least_y, c.replaced-self-4.ensures) refl
