-- The bytes that part fields and lines of text. Definitions only.
use Rattle.std.specs.Prelude.{ℕ}

abbrev pub SPACE : ℕ
SPACE = 32

abbrev pub NEWLINE : ℕ
NEWLINE = 10
