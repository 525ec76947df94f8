-- Small whole numbers as values of the format. Definitions only.
use Rattle.std.specs.Prelude.{false, pos, Float}
use Rattle.std.specs.Float.{fin}

abbrev pub 0·0 : Float
0·0 = fin false 0 (pos 0)

abbrev pub 1·0 : Float
1·0 = fin false 1 (pos 0)

abbrev pub 4·0 : Float
4·0 = fin false 1 (pos 2)
