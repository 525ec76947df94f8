-- The value of an answer, or f64::NAN. Assumes nothing.
use mathlib.Core.Path.{◌≡◌, refl}
use lib.Ieee.{Float, nan}
use Rattle.std.specs.Prelude.{Result, Ok, Err}
use Rattle.std.specs.Result.{result_unwrap_or}
use Rattle.answer.specs.Answer.{given}
use Rattle.answer.specs.declared.Refusal.{Refusal}
use Rattle.exports_elementary.specs.Value.{value_or_nan}

pub or_nan : (r : Result Float Refusal) → result_unwrap_or r nan ≡ value_or_nan (given r)
or_nan (Ok v) = refl
or_nan (Err r) = refl
