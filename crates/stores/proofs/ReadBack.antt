-- A run of elements in a list after another run has been put into it, over any element type, place and width. Assumes nothing.
use mathlib.Core.Path.{◌≡◌, refl, sym, ap, subst, ◌∙◌}
use mathlib.Core.Logic.{◌⊎◌, inl, inr, ⊎_elim}
use mathlib.Core.List.{List, [], ◌∷◌, ◌++◌}
use Prim.Native.Nat.{ℕ, zero, suc, ◌+◌, ◌*◌, ◌/◌, ◌%◌, ◌<◌, ◌≤◌}
use native.Mathlib.Nat.{mul-le-mul_right, mod-lt, div-add-mod'}
use native.Mathlib.Decide.{dec_lt}
use native.Mathlib.Omega.{arith}
use lib.ListN.{length, get_or, take, drop, replicate, length-take, length-drop}
use lib.Seq.{take_at, take-nil, drop-drop, get_or-take, get_or-drop, ext_get_or}
use Rattle.stores.specs.Slots.{run, put}

-- the place i lies outside the n places from `at` on
abbrev pub Outside : ℕ → ℕ → ℕ → Type 0
Outside at n i = (i < at) ⊎ (at + n ≤ i)

module _ {A : Type 0} where
  -- ---- one element

  below : (xs : List A) (at : ℕ) (ys : List A) (i : ℕ) (d : A) → i < at → at ≤ length xs → get_or (put xs at ys) i d ≡ get_or xs i d
  unfolding put
  below xs zero ys i d h l = absurd (omega arith)
  below [] (suc at) ys i d h l = absurd (omega arith)
  below (x ∷ xs) (suc at) ys zero d h l = refl
  below (x ∷ xs) (suc at) ys (suc i) d h l = below xs at ys i d (omega arith) (omega arith)

  behind : (ys xs : List A) (i : ℕ) (d : A) → length ys ≤ i → length ys ≤ length xs → get_or (ys ++ drop (length ys) xs) i d ≡ get_or xs i d
  behind [] xs i d h l = refl
  behind (y ∷ ys) [] i d h l = absurd (omega arith)
  behind (y ∷ ys) (x ∷ xs) zero d h l = absurd (omega arith)
  behind (y ∷ ys) (x ∷ xs) (suc i) d h l = behind ys xs i d (omega arith) (omega arith)

  above : (xs : List A) (at : ℕ) (ys : List A) (i : ℕ) (d : A) → at + length ys ≤ i → at + length ys ≤ length xs
      → get_or (put xs at ys) i d ≡ get_or xs i d
  unfolding put
  above xs zero ys i d h l = behind ys xs i d (omega arith) (omega arith)
  above [] (suc at) ys i d h l = absurd (omega arith)
  above (x ∷ xs) (suc at) ys zero d h l = absurd (omega arith)
  above (x ∷ xs) (suc at) ys (suc i) d h l = above xs at ys i d (omega arith) (omega arith)

  -- outside the run that was put nothing changes
  pub put_outside : (xs : List A) (at : ℕ) (ys : List A) (i : ℕ) (d : A) → Outside at (length ys) i → at + length ys ≤ length xs
      → get_or (put xs at ys) i d ≡ get_or xs i d
  put_outside xs at ys i d out l = ⊎_elim (λ h. below xs at ys i d h (omega arith)) (λ h. above xs at ys i d h l) out

  -- behind a list's end
  pub get_d_beyond : (xs : List A) (i : ℕ) (d : A) → length xs ≤ i → get_or xs i d ≡ d
  get_d_beyond [] i d h = refl
  get_d_beyond (x ∷ xs) zero d h = absurd (omega arith)
  get_d_beyond (x ∷ xs) (suc i) d h = get_d_beyond xs i d (omega arith)

  -- ---- a run

  pub length_run : (xs : List A) (at n : ℕ) → at + n ≤ length xs → length (run xs at n) ≡ n
  length_run xs at n h = simp (length-take, length-drop) (omega arith)

  pub get_d_run : (xs : List A) (at n i : ℕ) (d : A) → i < n → get_or (run xs at n) i d ≡ get_or xs (at + i) d
  get_d_run xs at n i d h = get_or-take n (drop at xs) i d h ∙ get_or-drop at xs i d

  -- two lists of one length that agree in a run's places have the same run
  pub run_same : (xs zs : List A) (at n : ℕ) (d : A) → length xs ≡ length zs
      → ((i : ℕ) → i < n → get_or xs (at + i) d ≡ get_or zs (at + i) d) → run xs at n ≡ run zs at n
  run_same xs zs at n d e f =
      ext_get_or d (run xs at n) (run zs at n)
      (simp (length-take, length-drop, e))
      (λ i k.
      let h : i < n = omega (arith, simp (length-take, length-drop) at k) in
      get_d_run xs at n i d h ∙ f i h ∙ sym (get_d_run zs at n i d h))

  -- the run that was put
  pub run_put : (xs : List A) (at : ℕ) (ys : List A) → at ≤ length xs → run (put xs at ys) at (length ys) ≡ ys
  unfolding put
  run_put xs zero ys l = take_at ys (drop (length ys) xs) (length ys) refl
  run_put [] (suc at) ys l = absurd (omega arith)
  run_put (x ∷ xs) (suc at) ys l = run_put xs at ys (omega arith)

  -- a run within a run
  pub run_run : (xs : List A) (at w i n : ℕ) → i + n ≤ w → run (run xs at w) i n ≡ run xs (at + i) n
  run_run xs at w i n h = within (drop at xs) w i n h ∙ ap (take n) (drop-drop i at xs)
    where
      within : (zs : List A) (w i n : ℕ) → i + n ≤ w → run (take w zs) i n ≡ run zs i n
      within [] w i n h = ap (λ (l : List A). run l i n) (take-nil w)
      within (z ∷ zs) zero zero zero h = refl
      within (z ∷ zs) zero zero (suc n) h = absurd (omega arith)
      within (z ∷ zs) zero (suc i) n h = absurd (omega arith)
      within (z ∷ zs) (suc w) zero zero h = refl
      within (z ∷ zs) (suc w) zero (suc n) h = ap (λ (l : List A). z ∷ l) (within zs w zero n (omega arith))
      within (z ∷ zs) (suc w) (suc i) n h = within zs w i n (omega arith)

  -- a run of one value
  pub run_replicate : (m at n : ℕ) (v : A) → at + n ≤ m → run (replicate m v) at n ≡ replicate n v
  run_replicate m zero n v h = front m n (omega arith)
    where
      front : (m n : ℕ) → n ≤ m → take n (replicate m v) ≡ replicate n v
      front m zero h = refl
      front zero (suc n) h = absurd (omega arith)
      front (suc m) (suc n) h = ap (λ (l : List A). v ∷ l) (front m n (omega arith))
  run_replicate zero (suc at) n v h = absurd (omega arith)
  run_replicate (suc m) (suc at) n v h = run_replicate m at n v (omega arith)

-- a place of slot j lies outside slot k, of the same width
pub other_slot : (w j k i : ℕ) → (j ≡ k → ⊥) → i < w → Outside (k * w) w (j * w + i)
other_slot w j k i ne h = by (dec_lt j k)
  where
    by : Dec (j < k) → Outside (k * w) w (j * w + i)
    by (yes l) = inl (omega (arith, mul-le-mul_right w l))
    by (no g) = let l : k < j = omega arith in inr (omega (arith, mul-le-mul_right w l))

-- and so does a place of any other slot
pub other_place : (w k i : ℕ) → 0 < w → (i / w ≡ k → ⊥) → Outside (k * w) w i
other_place w k i positive ne = subst (Outside (k * w) w) (div-add-mod' i w) (other_slot w (i / w) k (i % w) ne (mod-lt i positive))
