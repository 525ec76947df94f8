-- The table file as C functions. Definitions only.
use Rattle.std.specs.Prelude.{List}

-- a list is left as it is answered: a table's numbers, a file's bytes
abbrev pub whole : {A : Type 0} → List A → List A
whole xs = xs
