-- The grants are fair: each channel has the smaller of its wish and a level of its own, and the levels of all differ by at most one and fall in channel
-- order. The sum is told by the last round, which hands out all that remains unless nobody is short. Assumes nothing.
use mathlib.Core.Path.{◌≡◌, refl, sym, ap, ap₂, ◌∙◌}
use mathlib.Core.Logic.{⊎_elim}
use mathlib.Core.List.{List, [], ◌∷◌}
use Prim.Native.Nat.{ℕ, zero, suc, ◌+◌, ◌-◌, ◌≤◌, ◌<◌, zero-le, min}
use native.Mathlib.Omega.{arith}
use lib.ListN.{length}
use Rattle.turns.specs.Turns.{CALLS, CHANNELS, SHARE, sum, capped, remaining, single, round, fair_turns}
use Rattle.turns.specs.Levels.{short_of, LastLevel}
use Rattle.turns.specs.Fair.{of, beyond, Fair}
use Rattle.turns.proofs.Rounds.{still_is, idle, sum_round, sum_suc, nobody_short}
use Rattle.turns.proofs.Level.{all_granted, last_round_is, last_level}

-- ---- the levels

-- the first p channels have their wish up to one more than L, the others up to L
levelled : ℕ → ℕ → List ℕ → List ℕ
levelled L p [] = []
levelled L zero (w ∷ ws) = min w L ∷ levelled L zero ws
levelled L (suc p) (w ∷ ws) = min w (suc L) ∷ levelled L p ws

none_ahead : (L : ℕ) (ws : List ℕ) → levelled L 0 ws ≡ capped L ws
unfolding levelled
none_ahead L [] = refl
none_ahead L (w ∷ ws) = ap (λ (l : List ℕ). min w L ∷ l) (none_ahead L ws)

-- a round that starts from a level leaves the channels that it reaches ahead
reach : (left L : ℕ) (ws : List ℕ) → (p : ℕ) × (round left ws (capped L ws) ≡ levelled L p ws)
unfolding round levelled
reach left L [] = (0, refl)
reach zero L (w ∷ ws) = (0, idle (w ∷ ws) (capped L (w ∷ ws)) ∙ sym (none_ahead L (w ∷ ws)))
reach (suc left) L (w ∷ ws) =
    let behind = reach (suc left - single (suc left) w (min w L)) L ws in
    (suc behind.0, ap₂ ◌∷◌ (omega (arith, still_is w (min w L))) behind.1)

-- the level of channel k
top : ℕ → ℕ → ℕ → ℕ
top L p k = L + min 1 (p - k)

levelled_at : (L p : ℕ) (ws : List ℕ) (k : ℕ) → of (levelled L p ws) k ≡ min (of ws k) (top L p k)
unfolding levelled top
levelled_at L p [] k = omega arith
levelled_at L zero (w ∷ ws) zero = omega arith
levelled_at L zero (w ∷ ws) (suc k) = levelled_at L zero ws k ∙ omega arith
levelled_at L (suc p) (w ∷ ws) zero = omega arith
levelled_at L (suc p) (w ∷ ws) (suc k) = levelled_at L p ws k ∙ omega arith

levelled_length : (L p : ℕ) (ws : List ℕ) → length (levelled L p ws) ≡ length ws
unfolding levelled
levelled_length L p [] = refl
levelled_length L zero (w ∷ ws) = ap suc (levelled_length L zero ws)
levelled_length L (suc p) (w ∷ ws) = ap suc (levelled_length L p ws)

-- levels differ by at most one, and fall in channel order
top_least : (L p k : ℕ) → L ≤ top L p k
unfolding top
top_least L p k = omega arith

top_most : (L p k : ℕ) → top L p k ≤ L + 1
unfolding top
top_most L p k = omega arith

top_falls : (L p i j : ℕ) → i < j → top L p j ≤ top L p i
unfolding top
top_falls L p i j h = omega arith

-- ---- beyond the first share

-- no channel has more than its level ..
beyond_most : (ws gs : List ℕ) (k t : ℕ) → of gs k ≡ min (of ws k) t → SHARE ≤ t → beyond ws gs k + SHARE ≤ t
unfolding beyond
beyond_most ws gs k t e h = omega arith

-- .. and who is short has it
beyond_short : (ws gs : List ℕ) (k t : ℕ) → of gs k ≡ min (of ws k) t → SHARE ≤ t → of gs k < of ws k → beyond ws gs k + SHARE ≡ t
unfolding beyond
beyond_short ws gs k t e h short = omega arith

-- ---- the sum

capped_sum : (L : ℕ) (ws : List ℕ) → sum (capped L ws) ≤ sum ws
capped_sum L [] = zero-le
capped_sum L (w ∷ ws) = omega (arith, capped_sum L ws)

module _ (ws : List ℕ) (L : ℕ) (at : LastLevel ws L) where
  sum_granted : sum (fair_turns ws) ≡ min CALLS (sum ws)
  sum_granted = ⊎_elim all_served all_spent at.last
    where
      -- nobody is short
      all_served : short_of L ws ≡ 0 → sum (fair_turns ws) ≡ min CALLS (sum ws)
      all_served e =
          let within : sum ws ≤ CALLS = rw (nobody_short L ws e) at at.within in
          ap sum (all_granted ws within) ∙ omega arith

      -- nothing is left
      all_spent : remaining (capped L ws) < short_of L ws → sum (fair_turns ws) ≡ min CALLS (sum ws)
      all_spent h =
          sym (ap sum (last_round_is ws L at))
          ∙ sum_round (remaining (capped L ws)) L ws
          ∙ omega (arith, at.within, sum_suc L ws, capped_sum (suc L) ws)

  -- ---- all of it

  levelled_out : (p : ℕ) × (fair_turns ws ≡ levelled L p ws)
  levelled_out =
      let reached = reach (remaining (capped L ws)) L ws in
      (reached.0, sym (last_round_is ws L at) ∙ reached.1)

  fair_at : Fair ws (fair_turns ws)
  fair_at =
      let p = levelled_out.0 in
      let gs = fair_turns ws in
      let is : (k : ℕ) → of gs k ≡ min (of ws k) (top L p k) = λ k. ap (λ (l : List ℕ). of l k) levelled_out.1 ∙ levelled_at L p ws k in
      let share : (k : ℕ) → SHARE ≤ top L p k = λ k. omega (arith, at.first, top_least L p k) in
      let most : (k : ℕ) → beyond ws gs k + SHARE ≤ top L p k = λ k. beyond_most ws gs k (top L p k) (is k) (share k) in
      let short : (k : ℕ) → of gs k < of ws k → beyond ws gs k + SHARE ≡ top L p k = λ k h. beyond_short ws gs k (top L p k) (is k) (share k) h in
      record {
        for_each = ap length levelled_out.1 ∙ levelled_length L p ws;
        at_least = λ k. omega (arith, is k, share k);
        at_most = λ k. omega (arith, is k);
        total = sum_granted;
        not_behind = λ i j h s. omega (arith, short i s, most j, top_falls L p i j h);
        one_behind = λ i j h s. omega (arith, short j s, most i, top_most L p i, top_least L p j);
      }

-- Paper 12: "Prove that every channel gets at least the smaller of 16 and its wish, and never above its wish, whichever wishes the others state. Prove too
-- that the grants add up to the smaller of 256 and the total of wishes."
pub fair : (wishes : List ℕ) → length wishes ≡ CHANNELS → Fair wishes (fair_turns wishes)
fair wishes h = let level = last_level wishes h in fair_at wishes level.0 level.1
