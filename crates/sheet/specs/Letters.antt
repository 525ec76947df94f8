-- The bytes of the letters that stand on a page. Definitions only.
use Rattle.std.specs.Prelude.{ℕ}

abbrev pub A : ℕ
A = 65

abbrev pub C : ℕ
C = 67

abbrev pub L : ℕ
L = 76

abbrev pub M : ℕ
M = 77

abbrev pub N : ℕ
N = 78

abbrev pub O : ℕ
O = 79

abbrev pub R : ℕ
R = 82

abbrev pub S : ℕ
S = 83

abbrev pub T : ℕ
T = 84

abbrev pub U : ℕ
U = 85
