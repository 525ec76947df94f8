-- A candidate that is dropped, one that is added, and the candidates that are left: over any arithmetic and table. Assumes nothing.
use mathlib.Core.Path.{◌≡◌}
use mathlib.Core.List.{List, ◌++◌}
use Prim.Native.Nat.{ℕ, suc, ◌+◌, ◌-◌, ◌<◌}
use native.Mathlib.Numerals.{add-one}
use native.Mathlib.Omega.{arith}
use lib.Ieee.{Float}
use Rattle.answer.specs.Given.{answered, refused}
use Rattle.arithmetic.specs.Arith.{Arith}
use Rattle.coordinates.specs.declared.coords.Cartesian.{Cartesian}
use Rattle.coordinates.specs.Vector.{normalize}
use Rattle.crs.specs.Candidates.{candidate}
use Rattle.crs.specs.Frame.{row, find_vertex, add_row, add_rows}

module _ (A : Arith) where
  module _ (rows : List Float) (v p : Cartesian) (n : p ≡ normalize A v) where
    pub dropped : (q : Cartesian) → find_vertex A rows p ≡ answered q → rows ≡ add_row A rows v
    unfolding add_row
    dropped q e = let f = rw n at e in rw (f, add_row)

    pub added : (k : ℕ) → find_vertex A rows p ≡ refused k → rows ++ row p ≡ add_row A rows v
    unfolding add_row
    added k e = let f = rw n at e in rw n (rw (f, add_row))

  pub next_candidate : (table : List Float) (m k : ℕ) (rows : List Float) → k < m
      → add_rows A table (m - k) k rows ≡ add_rows A table (m - (k + 1)) (k + 1) (add_row A rows (candidate A table k))
  unfolding add_rows
  next_candidate table m k rows h =
      let e : m - k ≡ suc (m - (k + 1)) = omega arith in
      rw (e, add-one k)
