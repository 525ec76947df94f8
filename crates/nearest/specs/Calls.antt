-- The nearest origin as a call, with its checks. Definitions only.
use Rattle.std.specs.Prelude.{ℕ, List, Float}
use Rattle.answer.specs.Given.{Given, answered, and_then}
use Rattle.arithmetic.specs.Arith.{Arith}
use Rattle.coordinates.specs.Conversions.{check_spherical}
use Rattle.coordinates.specs.declared.spherical.Spherical.{Spherical}
use Rattle.origin.specs.Table.{check_table}
use Rattle.nearest.specs.Nearest.{nearest_origin}

module _ (A : Arith) where
  -- the call: Paper 10's checks of the table first, then theta and phi, each for 5 and then 6
  unfoldable pub nearest_given : List Float → Spherical → Given ℕ
  nearest_given table p = and_then (check_table A table) (and_then (check_spherical p) (answered (nearest_origin A table p)))
