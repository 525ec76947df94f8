-- `is_outside` meets its contract. Assumes nothing.
use mathlib.Core.Path.{sym, ap, ◌∙◌}
use lib.Ieee.{Float, lt, of_bits}
use Rattle.elementary.proofs.Inside.{64·0, otherwise_inside, outside_is}
use Rattle.sine.proofs.is_outside.Goals as goal

pub returns-then-is_finite : goal.returns-then-is_finite
unfolding of_bits
returns-then-is_finite c = ap (λ (a : Float). lt 64·0 a) c.abs.ensures ∙ outside_is _ (sym c.is_finite.ensures ∙ c.if-is_finite.true)

pub returns-else-is_finite : goal.returns-else-is_finite
returns-else-is_finite c =
    c.if-is_finite.false ∙ sym (otherwise_inside _ (sym c.is_finite.ensures ∙ c.if-is_finite.false))
