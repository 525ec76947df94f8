-- An answer as one number. Definitions only.
use Rattle.std.specs.Prelude.{Float}
use Rattle.std.specs.Float.{nan}
use Rattle.answer.specs.Given.{Given, answered, refused}

-- the value, and a NaN where there is none
abbrev pub value_or_nan : Given Float → Float
value_or_nan (answered v) = v
value_or_nan (refused n) = nan
