-- The lookup, one row further: what is left of a frame, from here, gives the whole. Assumes nothing.
use mathlib.Core.Path.{◌≡◌, refl, ap, ◌∙◌}
use mathlib.Core.Bool.{Bool, true, false}
use mathlib.Core.List.{List, [], ◌∷◌}
use Prim.Native.Nat.{ℕ, suc, ◌+◌, ◌≤◌, ◌<◌}
use native.Mathlib.Omega.{arith}
use lib.ListN.{length, get_or, drop, length-drop}
use lib.Seq.{drop-cons}
use lib.Ieee.{Float, nan}
use Rattle.answer.specs.Given.{Given, answered, refused}
use Rattle.arithmetic.specs.Arith.{Arith}
use Rattle.coordinates.specs.Vector.{cartesian}
use Rattle.coordinates.specs.declared.coords.Cartesian.{Cartesian}
use Rattle.crs.specs.Frame.{near, find_vertex}

-- the row that starts at a place
abbrev pub row_at : List Float → ℕ → Cartesian
row_at rows at = cartesian (get_or rows at nan) (get_or rows (at + 1) nan) (get_or rows (at + 2) nan)

module _ (A : Arith) (rows : List Float) (p : Cartesian) (at : ℕ) where
  first : (i j : ℕ) → suc i ≡ j → i < length rows → drop i rows ≡ get_or rows i nan ∷ drop j rows
  first i j e h = drop-cons rows i nan h ∙ ap (λ (n : ℕ). get_or rows i nan ∷ drop n rows) e

  from_here : at + 3 ≤ length rows → drop at rows ≡ get_or rows at nan ∷ get_or rows (at + 1) nan ∷ get_or rows (at + 2) nan ∷ drop (at + 3) rows
  from_here h =
      rw (
        first at (at + 1) (omega arith) (omega arith),
        first (at + 1) (at + 2) (omega arith) (omega arith),
        first (at + 2) (at + 3) (omega arith) (omega arith),
      )

  -- the row's test, as a Bool that can be known
  tested : (v : Cartesian) (rest : List Float) → Bool → Given Cartesian
  tested v rest b = elim b [ true ↦ answered v | false ↦ find_vertex A rest p ]

  by_test : at + 3 ≤ length rows → find_vertex A (drop at rows) p ≡ tested (row_at rows at) (drop (at + 3) rows) (near A p (row_at rows at))
  unfolding find_vertex tested
  by_test h = ap (λ (l : List Float). find_vertex A l p) (from_here h)

  pub found : at + 3 ≤ length rows → near A p (row_at rows at) ≡ true → find_vertex A (drop at rows) p ≡ answered (row_at rows at)
  unfolding tested
  found h e = by_test h ∙ ap (tested (row_at rows at) (drop (at + 3) rows)) e

  pub missed : at + 3 ≤ length rows → near A p (row_at rows at) ≡ false → find_vertex A (drop at rows) p ≡ find_vertex A (drop (at + 3) rows) p
  unfolding tested
  missed h e = by_test h ∙ ap (tested (row_at rows at) (drop (at + 3) rows)) e

  no_row : (l : List Float) → length l < 3 → find_vertex A l p ≡ refused 8
  unfolding find_vertex
  no_row [] h = refl
  no_row (a ∷ []) h = refl
  no_row (a ∷ b ∷ []) h = refl
  no_row (a ∷ b ∷ c ∷ l) h = absurd (omega arith)

  pub at_end : length rows < at + 3 → find_vertex A (drop at rows) p ≡ refused 8
  at_end h = no_row (drop at rows) (simp length-drop (omega arith))
