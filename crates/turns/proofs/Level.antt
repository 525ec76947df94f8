-- Whole rounds at once: at the level where they end, one more round gives the grants. Rounds that reach all who are short take the level up one by one; the
-- round after them hands out all that remains, or nobody is short; those that follow hand out nothing. Assumes nothing.
use mathlib.Core.Path.{◌≡◌, refl, sym, ap, ◌∙◌}
use mathlib.Core.Logic.{◌⊎◌, inl, inr, ⊎_elim}
use mathlib.Core.Bool.{Bool, true, false}
use mathlib.Core.List.{List, [], ◌∷◌}
use Prim.Native.Nat.{ℕ, zero, suc, ◌+◌, ◌-◌, ◌*◌, ◌/◌, ◌≤◌, ◌<◌, zero-le, min}
use native.Mathlib.Nat.{zero-add, add-zero, suc-add, add-suc, mul-add, mul-zero, mul-one, div-le_self, div-mul-le_self, le-div_iff_mul-le}
use native.Mathlib.Omega.{arith}
use lib.Dec.{ltb}
use lib.ListN.{length}
use borrow.Author.Tests.{ltb-true, ltb-false}
use Rattle.turns.specs.Turns.{CALLS, CHANNELS, SHARE, sum, capped, remaining, still_short, round, rounds, fair_turns}
use Rattle.turns.specs.Levels.{short_of, LastLevel}
use Rattle.turns.proofs.Rounds.{still_cases, idle, all_served, whole, sum_round, sum_suc, sum_mono, level_within, nobody_short, all_below}

-- ---- rounds

pub no_round : (ws gs : List ℕ) → rounds 0 ws gs ≡ gs
unfolding rounds
no_round ws gs = refl

pub next_round : (n : ℕ) (ws gs : List ℕ) → rounds (suc n) ws gs ≡ rounds n ws (round (remaining gs) ws gs)
unfolding rounds
next_round n ws gs = refl

-- with nothing left
pub idle_rounds : (n : ℕ) (ws gs : List ℕ) → remaining gs ≡ 0 → rounds n ws gs ≡ gs
idle_rounds zero ws gs e = no_round ws gs
idle_rounds (suc n) ws gs e =
    next_round n ws gs ∙ ap (rounds n ws) (ap (λ (l : ℕ). round l ws gs) e ∙ idle ws gs) ∙ idle_rounds n ws gs e

-- k whole rounds take the level up by k
pub whole_rounds : (k n L : ℕ) (ws : List ℕ) → sum (capped (L + k) ws) ≤ CALLS → rounds (k + n) ws (capped L ws) ≡ rounds n ws (capped (L + k) ws)
whole_rounds zero n L ws h = rw (zero-add, add-zero)
whole_rounds (suc k) n L ws h =
    let later : sum (capped (suc L + k) ws) ≤ CALLS = rw suc-add (rw add-suc at h) in
    let reached : short_of L ws ≤ remaining (capped L ws) = omega (arith, sum_suc L ws, sum_mono (suc L) (suc L + k) ws (omega arith)) in
    rw (suc-add k n) (
    next_round (k + n) ws (capped L ws)
    ∙ ap (rounds (k + n) ws) (whole (remaining (capped L ws)) L ws reached)
    ∙ whole_rounds k n (suc L) ws later
    ∙ ap (λ (M : ℕ). rounds n ws (capped M ws)) (omega arith)
    )

-- ---- the grants

pub rounds_of : (wishes : List ℕ) → fair_turns wishes ≡ rounds CALLS wishes (capped SHARE wishes)
unfolding fair_turns
rounds_of wishes = refl

-- wishes for no more than all calls are all granted
pub all_granted : (ws : List ℕ) → sum ws ≤ CALLS → fair_turns ws ≡ ws
all_granted ws h =
    let top = SHARE + CALLS in
    let all : capped top ws ≡ ws = all_below top ws (omega arith) in
    rounds_of ws ∙ whole_rounds CALLS 0 SHARE ws (rw all h) ∙ no_round ws (capped top ws) ∙ all

module _ (ws : List ℕ) (L : ℕ) (at : LastLevel ws L) where
  after : List ℕ
  after = round (remaining (capped L ws)) ws (capped L ws)

  -- nobody is short
  none_short : short_of L ws ≡ 0 → after ≡ fair_turns ws
  unfolding after
  none_short e =
      let all : capped L ws ≡ ws = nobody_short L ws e in
      rw all (all_served (remaining ws) ws ∙ sym (all_granted ws (rw all at at.within)))

  -- the last round hands out all that remains
  none_left : remaining (capped L ws) < short_of L ws → fair_turns ws ≡ after
  unfolding after
  none_left h =
      let k = L - SHARE in
      let level : SHARE + k ≡ L = omega (arith, at.first) in
      let n = CALLS - suc k in
      let count : CALLS ≡ k + suc n = omega (arith, at.within, level_within L ws (omega arith)) in
      let spent : remaining after ≡ 0 = omega (arith, at.within, sum_round (remaining (capped L ws)) L ws) in
      rounds_of ws
      ∙ ap (λ (m : ℕ). rounds m ws (capped SHARE ws)) count
      ∙ whole_rounds k (suc n) SHARE ws (rw level at.within)
      ∙ ap (λ (M : ℕ). rounds (suc n) ws (capped M ws)) level
      ∙ next_round n ws (capped L ws)
      ∙ idle_rounds n ws after spent

  pub last_round_is : round (remaining (capped L ws)) ws (capped L ws) ≡ fair_turns ws
  unfolding after
  last_round_is = ⊎_elim none_short (λ h. sym (none_left h)) at.last

-- ---- there is such a level

-- the first shares are within all calls
pub first_within : (ws : List ℕ) → length ws ≡ CHANNELS → sum (capped SHARE ws) ≤ CALLS
first_within ws h = omega (arith, each ws)
  where
    each : (xs : List ℕ) → sum (capped SHARE xs) ≤ SHARE * length xs
    each [] = zero-le
    each (x ∷ xs) = omega (arith, each xs)

-- with s short and r calls left, whole rounds are over or one more is due
due : (s r : ℕ) → ((s ≡ 0) ⊎ (r < s)) ⊎ ((0 < s) × (s ≤ r))
due zero r = inl (inl refl)
due (suc s) r = go (ltb r (suc s)) refl
  where
    go : (b : Bool) → ltb r (suc s) ≡ b → ((suc s ≡ 0) ⊎ (r < suc s)) ⊎ ((0 < suc s) × (suc s ≤ r))
    go true e = inl (inr (ltb-true r (suc s) e))
    go false e = inr (omega arith, ltb-false r (suc s) e)

-- from a level on, by what remains there
find : (n L : ℕ) (ws : List ℕ) → SHARE ≤ L → sum (capped L ws) ≤ CALLS → remaining (capped L ws) ≤ n → (M : ℕ) × LastLevel ws M
find zero L ws first within h =
    ⊎_elim
    (λ over. (L, record { first = first; within = within; last = over }))
    (λ more. absurd (omega arith))
    (due (short_of L ws) (remaining (capped L ws)))
find (suc n) L ws first within h =
    ⊎_elim
    (λ over. (L, record { first = first; within = within; last = over }))
    (λ more. find n (suc L) ws (omega arith) (omega (arith, sum_suc L ws)) (omega (arith, sum_suc L ws)))
    (due (short_of L ws) (remaining (capped L ws)))

pub last_level : (ws : List ℕ) → length ws ≡ CHANNELS → (M : ℕ) × LastLevel ws M
last_level ws h = find CALLS SHARE ws (omega arith) (first_within ws h) (omega arith)

-- ---- several rounds at once

-- k rounds hand out at most k calls to each who is short
pub rise : (L k : ℕ) (ws : List ℕ) → sum (capped (L + k) ws) ≤ sum (capped L ws) + k * short_of L ws
rise L k [] = zero-le
rise L k (w ∷ ws) = omega (arith, rise L k ws, one, mul-add k (still_short w L) (short_of L ws))
  where
    one : min w (L + k) ≤ min w L + k * still_short w L
    one = ⊎_elim (λ h. rw (h.1, mul-zero) (omega arith)) (λ h. rw (h.1, mul-one) (omega arith)) (still_cases w L)

-- a level that all calls suffice for, with what remains there and how many are short
pub record Reached (wishes : List ℕ) (level left short : ℕ) : Type 0 where
  pub first : SHARE ≤ level
  pub within : sum (capped level wishes) ≤ CALLS
  pub left_is : left ≡ remaining (capped level wishes)
  pub short_is : short ≡ short_of level wishes

-- from there as many rounds as what remains allows to all who are short: all calls suffice for them, and it is one at least
module _ {ws : List ℕ} {L left short : ℕ} (at : Reached ws L left short) (some : 0 < short) (due : short ≤ left) where
  pub jump_fits : L + left / short ≤ CALLS + CALLS
  jump_fits = omega (arith, level_within L ws (omega arith), div-le_self left short)

  pub jump_within : sum (capped (L + left / short) ws) ≤ CALLS
  jump_within = omega (arith, rw (← at.short_is) at (rise L (left / short) ws), div-mul-le_self left short)

  pub jump_more : sum (capped L ws) < sum (capped (L + left / short) ws)
  jump_more =
      let one : 1 ≤ left / short = (le-div_iff_mul-le some).1 (omega arith) in
      omega (arith, sum_suc L ws, sum_mono (suc L) (L + left / short) ws (omega arith))
