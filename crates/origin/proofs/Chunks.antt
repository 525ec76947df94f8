-- A list in chunks, and a table in chunks of seven: each is the row at its place. Assumes nothing.
use mathlib.Core.Path.{◌≡◌, ap, ◌∙◌}
use mathlib.Core.List.{List, []}
use Prim.Native.Nat.{ℕ, zero, suc, ◌+◌, ◌*◌, ◌/◌, ◌<◌}
use native.Mathlib.Nat.{mul-zero, mul-suc}
use native.Mathlib.Omega.{arith}
use lib.ListN.{length, get_or, drop}
use lib.Seq.{get_or-take, get_or-drop}
use lib.Ieee.{Float, nan}
use Rattle.std.specs.Simd.{first_chunks}
use Rattle.origin.specs.Origins.{origin_of, origin_at}
use Rattle.origin.specs.declared.utils.Origin.{Origin}

-- a chunk of w numbers at its place
pub in_chunk : (w k i j : ℕ) (rows : List Float) → i < k → j < w → get_or (get_or (first_chunks w k rows) i []) j nan ≡ get_or rows (w * i + j) nan
in_chunk w zero i j rows h l = absurd (omega arith)
in_chunk w (suc k) zero j rows h l =
    get_or-take w rows j nan l ∙ ap (λ (n : ℕ). get_or rows n nan) (let e : j ≡ w * 0 + j = omega (arith, mul-zero w) in e)
in_chunk w (suc k) (suc i) j rows h l =
    in_chunk w k i j (drop w rows) (omega arith) l
    ∙ get_or-drop w rows (w * i + j) nan
    ∙ ap (λ (n : ℕ). get_or rows n nan) (let e : w + (w * i + j) ≡ w * suc i + j = omega (arith, mul-suc w i) in e)

-- a chunk as an origin
abbrev pub origin_in : List Float → Origin
origin_in r = origin_of (get_or r 0 nan) (get_or r 1 nan) (get_or r 2 nan) (get_or r 3 nan) (get_or r 4 nan) (get_or r 5 nan) (get_or r 6 nan)

-- the chunk at a place, of a table's chunks
pub chunk_row : (table : List Float) (chunks : List (List Float)) (i : ℕ) → chunks ≡ first_chunks 7 (length table / 7) table
    → i < length table / 7 → origin_in (get_or chunks i []) ≡ origin_at table i
unfolding origin_at
chunk_row table chunks i e h =
    let number = in_chunk 7 (length table / 7) i in
    let theta = number 0 table h (omega arith) ∙ ap (λ (n : ℕ). get_or table n nan) (let e : 7 * i + 0 ≡ 7 * i = omega arith in e) in
    ap (λ (l : List (List Float)). origin_in (get_or l i [])) e
    ∙ λ t.
    origin_of
    (theta t)
    (number 1 table h (omega arith) t)
    (number 2 table h (omega arith) t)
    (number 3 table h (omega arith) t)
    (number 4 table h (omega arith) t)
    (number 5 table h (omega arith) t)
    (number 6 table h (omega arith) t)
