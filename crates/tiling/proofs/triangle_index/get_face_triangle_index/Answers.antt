-- `triangle_index::get_face_triangle_index` meets its contract: floor of the quotient, cut to a whole number, is the definition's, and ten more changes
-- nothing; the definition's lies below 10. Assumes nothing.
use Rattle.std.proofs.Common.{sym, ap, ◌∙◌}
use lib.Ieee.{binary64, div, of_bits}
use lib.Ieee.Fits.{div-fits}
use Rattle.elementary.specs.Whole.{floorℤ}
use Rattle.arithmetic.specs.Arith.{ieee}
use Rattle.origin.specs.Constants.{PI_OVER_5}
use Rattle.tiling.specs.Index.{modulo10, triangle_index}
use Rattle.tiling.specs.Cut.{as_whole}
use Rattle.tiling.proofs.Modulo.{index_below_10, ten_more, floor_cut}
use Rattle.tiling.proofs.triangle_index.get_face_triangle_index.Goals as goal

pub returns : goal.returns
unfolding triangle_index PI_OVER_5 of_bits
returns c =
    let gamma = c.args.polar.gamma.0 in
    let quotient = div binary64 gamma PI_OVER_5 in
    let index =
    c.whole_modulo.ensures
    ∙ ap (λ n. modulo10 (as_whole n)) c.floor-whole.ensures
    ∙ ap modulo10 (floor_cut quotient (div-fits binary64 gamma PI_OVER_5))
    ∙ sym (ten_more (floorℤ quotient)) in
    record { index = index; below = rw index (index_below_10 ieee c.args.polar.gamma) }
