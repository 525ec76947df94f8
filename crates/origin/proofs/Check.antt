-- What the check of a table comes to: by whether its numbers are sound and its quaternions unit, and back from a check that passed. Assumes
-- nothing.
use mathlib.Core.Path.{◌≡◌}
use mathlib.Core.Bool.{true, false, not}
use mathlib.Core.List.{List}
use lib.Ieee.{Float}
use Rattle.std.proofs.lemmas.Bool.{not-false}
use Rattle.answer.specs.Given.{refused, passed, refuse_if}
use Rattle.answer.proofs.Given.{refuse_answered}
use Rattle.arithmetic.specs.Arith.{Arith}
use Rattle.origin.specs.Table.{numbers_sound, unit_rows, check_table}

module _ (A : Arith) (table : List Float) where
  pub gives_21 : numbers_sound table ≡ false → refused 21 ≡ check_table A table
  unfolding check_table
  gives_21 e = rw e

  pub gives_22 : numbers_sound table ≡ true → unit_rows A table ≡ false → refused 22 ≡ check_table A table
  unfolding check_table
  gives_22 e f = rw (e, f)

  pub passes : numbers_sound table ≡ true → unit_rows A table ≡ true → passed ≡ check_table A table
  unfolding check_table
  passes e f = rw (e, f)

  -- a table that passes has sound numbers
  pub passed_sound : check_table A table ≡ passed → numbers_sound table ≡ true
  unfolding check_table
  passed_sound e =
      let rest = refuse_if (not (unit_rows A table)) 22 passed in
      not-false (numbers_sound table) (refuse_answered (not (numbers_sound table)) 21 rest tt e).0
