-- A frame in chunks of three: each is the row at its place. Assumes nothing.
use mathlib.Core.Path.{◌≡◌, ap, ◌∙◌}
use mathlib.Core.List.{List, []}
use Prim.Native.Nat.{ℕ, ◌+◌, ◌*◌, ◌/◌, ◌<◌}
use native.Mathlib.Omega.{arith}
use lib.ListN.{length, get_or}
use lib.Ieee.{Float, nan}
use Rattle.std.specs.Simd.{first_chunks}
use Rattle.coordinates.specs.Vector.{cartesian}
use Rattle.coordinates.specs.declared.coords.Cartesian.{Cartesian}
use Rattle.origin.proofs.Chunks.{in_chunk}
use Rattle.crs.proofs.Search.{row_at}

-- a chunk as a row
abbrev pub row_of : List Float → Cartesian
row_of chunk = cartesian (get_or chunk 0 nan) (get_or chunk 1 nan) (get_or chunk 2 nan)

-- the chunk at a place, of a frame's chunks
pub chunk_row : (rows : List Float) (chunks : List (List Float)) (i : ℕ) → chunks ≡ first_chunks 3 (length rows / 3) rows → i < length rows / 3
    → row_of (get_or chunks i []) ≡ row_at rows (3 * i)
chunk_row rows chunks i e h =
    let k = length rows / 3 in
    let x = in_chunk 3 k i 0 rows h (omega arith) ∙ ap (λ (n : ℕ). get_or rows n nan) (let e : 3 * i + 0 ≡ 3 * i = omega arith in e) in
    ap (λ (l : List (List Float)). row_of (get_or l i [])) e
    ∙ λ t. cartesian (x t) (in_chunk 3 k i 1 rows h (omega arith) t) (in_chunk 3 k i 2 rows h (omega arith) t)
