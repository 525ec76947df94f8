-- `table::row_sound` meets its contract: a number within a finite limit is finite. Assumes nothing.
use mathlib.Core.Path.{◌≡◌, ◌∙◌}
use mathlib.Core.Bool.{false, ◌&&◌}
use lib.IntN.{pos}
use lib.Ieee.{Float, of_bits}
use Rattle.arithmetic.specs.Numbers.{1·0}
use Rattle.coordinates.specs.Constants.{8·0}
use Rattle.origin.specs.Table.{within, sound, row_sound}
use Rattle.origin.proofs.Numbers.{finite_within}
use Rattle.origin.proofs.table.row_sound.Goals as goal

pub returns : goal.returns
unfolding row_sound of_bits
returns c =
    let o = c.args.origin in
    let in-8 : (v : Float) → within 8·0 v ≡ sound 8·0 v = finite_within false 1 (pos 3) in
    let in-1 : (v : Float) → within 1·0 v ≡ sound 1·0 v = finite_within false 1 (pos 0) in
    λ i.
    (c.within-theta.ensures ∙ in-8 o.axis.theta.0) i
    && (c.within-phi.ensures ∙ in-8 o.axis.phi.0) i
    && (c.within-x.ensures ∙ in-1 o.quat.x) i
    && (c.within-y.ensures ∙ in-1 o.quat.y) i
    && (c.within-z.ensures ∙ in-1 o.quat.z) i
    && (c.within-w.ensures ∙ in-1 o.quat.w) i
    && (c.within-angle.ensures ∙ in-8 o.angle.0) i
