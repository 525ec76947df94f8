-- The built-in table passes 21 and 22. Computed. Assumes nothing.
use mathlib.Core.Path.{◌≡◌, refl, ap, ◌∙◌}
use lib.Ieee.{of_bits, le, lt, eq, neg}
use Rattle.answer.specs.Given.{passed}
use Rattle.answer.specs.Number.{is_finite}
use Rattle.arithmetic.specs.Arith.{Arith, ieee}
use Rattle.arithmetic.proofs.Quick.{quick, in_ieee}
use Rattle.origin.specs.Origins.{ORIGINS, origin_at}
use Rattle.origin.specs.Table.{1e-12, row_sound, every_row, numbers_sound, is_unit, unit_rows, check_table}
use Rattle.origin.proofs.BuiltIn.{BITS, built_in}

bits_pass : check_table ieee BITS ≡ passed
unfolding check_table numbers_sound unit_rows every_row row_sound is_unit is_finite 1e-12 origin_at BITS of_bits le lt eq neg quick
bits_pass = in_ieee (λ (A : Arith). check_table A BITS ≡ passed) refl

pub built_in_passes : check_table ieee ORIGINS ≡ passed
built_in_passes = ap (check_table ieee) built_in ∙ bits_pass
