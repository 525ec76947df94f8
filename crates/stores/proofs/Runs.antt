-- A run of elements in the middle of a list, over any element type, place and width: what stores over a whole run leave, and a
-- mark and a run that is lent on from behind it. Assumes nothing.
use mathlib.Core.Path.{◌≡◌, refl, ap}
use mathlib.Core.List.{List, [], ◌∷◌}
use Prim.Native.Nat.{ℕ, zero, suc, ◌+◌, ◌-◌, ◌<◌, ◌≤◌}
use native.Mathlib.Numerals.{add-one}
use native.Mathlib.Omega.{arith}
use lib.ListN.{length, set, length-append, length-take, length-drop}
use borrow.Rule.Slice.PartMut.{put_mid}
use Rattle.stores.specs.Slots.{put}

-- the length of a part between two places that are counted from one
pub gap : (at e s : ℕ) → at + e - (at + s) ≡ e - s
gap at e s = omega arith

module _ {A : Type 0} where
  -- a store just before a run joins it
  put_set : (xs : List A) (at : ℕ) (v : A) (ys : List A) → at < length xs → put (set xs at v) (suc at) ys ≡ put xs at (v ∷ ys)
  unfolding put
  put_set [] at v ys h = absurd (omega arith)
  put_set (x ∷ xs) zero v ys h = refl
  put_set (x ∷ xs) (suc at) v ys h = ap (λ (l : List A). x ∷ l) (put_set xs at v ys (omega arith))

  pub put_marked : (xs : List A) (at e : ℕ) (v : A) (ys zs : List A) → at < length xs → ys ≡ zs → e - (at + 1) ≡ length zs
      → put_mid (at + 1) (e - (at + 1)) (set xs at v) ys ≡ put xs at (v ∷ zs)
  unfolding put
  put_marked xs at e v ys zs h p q = rw (p, q) (rw add-one (put_set xs at v zs h))

  pub length_put : (xs : List A) (at : ℕ) (ys : List A) → at + length ys ≤ length xs → length (put xs at ys) ≡ length xs
  unfolding put
  length_put xs at ys h = simp (length-append, length-take, length-drop) (omega arith)
