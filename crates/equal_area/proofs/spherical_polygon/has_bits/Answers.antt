-- `spherical_polygon::has_bits` meets its contract. Assumes nothing.
use mathlib.Core.Path.{sym, ap, ◌∙◌}
use lib.Ieee.{binary64, of_bits}
use lib.Ieee.Bits.{of_bits-to_bits}
use borrow.Author.Tests.{eqb-true}
use Rattle.equal_area.proofs.spherical_polygon.has_bits.Goals as goal

pub returns : goal.returns
returns c e = sym (of_bits-to_bits binary64 c.args.x (rw c.well_formed.0.1 tt)) ∙ ap (of_bits binary64) (sym c.bits.ensures ∙ eqb-true _ _ e)
