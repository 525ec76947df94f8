-- The candidates of a frame in two parts, over any arithmetic and table. Assumes nothing.
use mathlib.Core.Path.{◌≡◌}
use mathlib.Core.List.{List}
use Prim.Native.Nat.{ℕ, zero, suc, ◌+◌}
use native.Mathlib.Nat.{zero-add, suc-add, add-suc}
use lib.Ieee.{Float}
use Rattle.arithmetic.specs.Arith.{Arith}
use Rattle.crs.specs.Candidates.{candidate}
use Rattle.crs.specs.Frame.{add_row, add_rows}

-- m candidates, and then n more
pub add_rows_split : (A : Arith) (table : List Float) (m n k : ℕ) (rows : List Float)
    → add_rows A table (m + n) k rows ≡ add_rows A table n (m + k) (add_rows A table m k rows)
unfolding add_rows
add_rows_split A table zero n k rows = rw (zero-add n, zero-add k)
add_rows_split A table (suc m) n k rows =
    let rest = add_rows_split A table m n (suc k) (add_row A rows (candidate A table k)) in
    rw (suc-add m n, suc-add m k) (rw (add-suc m k) at rest)
