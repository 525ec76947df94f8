-- Laws of a round, and of rounds while each reaches all who are short: then every channel has the smaller of its wish and a level. Assumes nothing.
use mathlib.Core.Path.{◌≡◌, refl, sym, ap, ap₂, ◌∙◌}
use mathlib.Core.Logic.{◌⊎◌, inl, inr, ⊎_elim}
use mathlib.Core.Bool.{Bool, true, false, cond}
use mathlib.Core.List.{List, [], ◌∷◌}
use Prim.Native.Nat.{ℕ, suc, ◌+◌, ◌-◌, ◌≤◌, ◌<◌, zero-le, min}
use native.Mathlib.Omega.{arith}
use lib.Dec.{ltb}
use lib.ListN.{length}
use borrow.Author.Tests.{ltb-true, ltb-false}
use Rattle.turns.specs.Turns.{sum, capped, still_short, single, round}
use Rattle.turns.specs.Levels.{short_of}

pub still_cases : (wish grant : ℕ) → ((wish ≤ grant) × (still_short wish grant ≡ 0)) ⊎ ((grant < wish) × (still_short wish grant ≡ 1))
unfolding still_short
still_cases wish grant = go (ltb grant wish) refl
  where
    go : (b : Bool) → ltb grant wish ≡ b → ((wish ≤ grant) × (◌≡◌ {A = ℕ} (cond b 1 0) 0)) ⊎ ((grant < wish) × (◌≡◌ {A = ℕ} (cond b 1 0) 1))
    go true e = inr (ltb-true grant wish e, refl)
    go false e = inl (ltb-false grant wish e, refl)

pub still_is : (wish grant : ℕ) → still_short wish grant ≡ min 1 (wish - grant)
still_is wish grant = ⊎_elim (λ h. omega arith) (λ h. omega arith) (still_cases wish grant)

-- who is short of his wish at a level is so with the smaller of the two
pub still_capped : (w L : ℕ) → still_short w (min w L) ≡ still_short w L
still_capped w L = still_is w (min w L) ∙ capped_gap ∙ sym (still_is w L)
  where
    capped_gap : min 1 (w - min w L) ≡ min 1 (w - L)
    capped_gap = omega arith

-- with one more he has his wish at most
pub within_wish : (left w L : ℕ) → min w L + single left w (min w L) ≤ w
within_wish left w L = omega (arith, still_is w (min w L))

-- ---- one round

-- with nothing left nothing is handed out
pub idle : (ws gs : List ℕ) → round 0 ws gs ≡ gs
unfolding round
idle [] gs = refl
idle (w ∷ ws) [] = refl
idle (w ∷ ws) (g ∷ gs) = ap₂ ◌∷◌ (omega arith) (ap (λ (l : ℕ). round l ws gs) (omega arith) ∙ idle ws gs)

-- who has his wish gets nothing
pub all_served : (left : ℕ) (ws : List ℕ) → round left ws ws ≡ ws
unfolding round
all_served left [] = refl
all_served left (w ∷ ws) = ap₂ ◌∷◌ (omega (arith, still_is w w)) (all_served (left - single left w w) ws)

-- one that reaches all who are short takes the level up by one
pub whole : (left L : ℕ) (ws : List ℕ) → short_of L ws ≤ left → round left ws (capped L ws) ≡ capped (suc L) ws
unfolding round
whole left L [] h = refl
whole left L (w ∷ ws) h =
    ap₂ ◌∷◌ (omega (arith, still_capped w L, still_is w L)) (whole (left - single left w (min w L)) L ws (omega (arith, still_capped w L)))

-- what it hands out
pub sum_round : (left L : ℕ) (ws : List ℕ) → sum (round left ws (capped L ws)) ≡ sum (capped L ws) + min left (short_of L ws)
unfolding round
sum_round left L [] = omega arith
sum_round left L (w ∷ ws) =
    let one = single left w (min w L) in
    omega (arith, sum_round (left - one) L ws, still_capped w L)

-- ---- levels

pub sum_suc : (L : ℕ) (ws : List ℕ) → sum (capped (suc L) ws) ≡ sum (capped L ws) + short_of L ws
sum_suc L [] = refl
sum_suc L (w ∷ ws) = omega (arith, sum_suc L ws, still_is w L)

pub sum_mono : (L M : ℕ) (ws : List ℕ) → L ≤ M → sum (capped L ws) ≤ sum (capped M ws)
sum_mono L M [] h = zero-le
sum_mono L M (w ∷ ws) h = omega (arith, sum_mono L M ws h)

-- where someone is short, he has the level
pub level_within : (L : ℕ) (ws : List ℕ) → 0 < short_of L ws → L ≤ sum (capped L ws)
level_within L [] h = absurd (omega arith)
level_within L (w ∷ ws) h =
    ⊎_elim (λ e. omega (arith, level_within L ws (omega (arith, e.1)))) (λ e. omega (arith, e.0)) (still_cases w L)

-- where nobody is short, each has his wish
pub nobody_short : (L : ℕ) (ws : List ℕ) → short_of L ws ≡ 0 → capped L ws ≡ ws
nobody_short L [] h = refl
nobody_short L (w ∷ ws) h = ap₂ ◌∷◌ (omega (arith, still_is w L)) (nobody_short L ws (omega arith))

pub all_below : (L : ℕ) (ws : List ℕ) → sum ws ≤ L → capped L ws ≡ ws
all_below L [] h = refl
all_below L (w ∷ ws) h = ap₂ ◌∷◌ (omega arith) (all_below L ws (omega arith))

pub short_most : (L : ℕ) (ws : List ℕ) → short_of L ws ≤ length ws
short_most L [] = zero-le
short_most L (w ∷ ws) = omega (arith, short_most L ws, still_is w L)
