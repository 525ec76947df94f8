-- What follows from the theorem. An answered call leaves fair grants; two channels that are both short differ by one at most; no other grants are fair; a
-- larger wish never gets a channel less; and no round after the last changes anything. Assumes nothing.
use mathlib.Core.Path.{◌≡◌, refl, sym, ap, ◌∙◌}
use mathlib.Core.Bool.{Bool, true, false, not}
use mathlib.Core.List.{List, [], ◌∷◌}
use Prim.Native.Nat.{ℕ, zero, suc, ◌+◌, ◌≤◌, ◌<◌, zero-le}
use native.Mathlib.Nat.{zero-add, suc-add, le_antisymm}
use native.Mathlib.Omega.{arith}
use lib.Dec.{eqb, ltb}
use lib.ListN.{length, set, length-set}
use lib.Seq.{ext_get_or, get_or-set_other}
use borrow.Author.Tests.{eqb-true, ltb-true, ltb-false, not-false}
use Rattle.answer.specs.Given.{passed}
use Rattle.answer.proofs.Given.{refuse_answered}
use Rattle.turns.specs.Turns.{CALLS, CHANNELS, sum, first_shares, remaining, round, rounds, fair_turns, turns_given, grants_after}
use Rattle.turns.specs.Fair.{of, beyond, Fair}
use Rattle.turns.proofs.Rounds.{all_served}
use Rattle.turns.proofs.Level.{rounds_of, no_round, next_round, idle_rounds, all_granted}
use Rattle.turns.proofs.Theorem.{fair}
use Rattle.turns.proofs.TwoTurns.{short_beyond, no_less}

-- ---- the call

sixteen_wishes : (wishes grants : List ℕ) → turns_given wishes grants ≡ passed → length wishes ≡ CHANNELS
unfolding turns_given
sixteen_wishes wishes grants e =
    let other = not (eqb (length wishes) CHANNELS) in
    eqb-true (length wishes) CHANNELS (not-false (eqb (length wishes) CHANNELS) (refuse_answered other 24 _ tt e).0)

pub granted_is_fair :
    (wishes grants : List ℕ) →
    turns_given wishes grants ≡ passed →
    Fair wishes (grants_after (turns_given wishes grants) wishes grants)
granted_is_fair wishes grants e = rw e (fair wishes (sixteen_wishes wishes grants e))

-- ---- two channels

module _ (ws gs : List ℕ) (is : Fair ws gs) where
  -- "two channels that are both still short differ by at most one beyond their first share, the lower-numbered one ahead"; and so do their grants
  pub both_short :
      (i j : ℕ) →
      i < j →
      of gs i < of ws i →
      of gs j < of ws j →
      (beyond ws gs j ≤ beyond ws gs i) × (beyond ws gs i ≤ beyond ws gs j + 1) × (of gs j ≤ of gs i) × (of gs i ≤ of gs j + 1)
  both_short i j h si sj =
      let ahead = is.not_behind i j h si in
      let by_one = is.one_behind i j h sj in
      let bi = short_beyond ws gs is i si in
      let bj = short_beyond ws gs is j sj in
      (ahead, by_one, omega arith, omega arith)

-- ---- one channel's wish

set_least : (ws : List ℕ) (i more : ℕ) → of ws i ≤ more → of ws i ≤ of (set ws i more) i
set_least [] i more h = zero-le
set_least (w ∷ ws) zero more h = h
set_least (w ∷ ws) (suc i) more h = set_least ws i more h

-- "a larger wish never gets a channel less": the other channels' wishes being the same
pub larger_wish :
    (wishes : List ℕ) →
    length wishes ≡ CHANNELS →
    (channel more : ℕ) →
    of wishes channel ≤ more →
    of (fair_turns wishes) channel ≤ of (fair_turns (set wishes channel more)) channel
larger_wish ws h i more l =
    no_less
    ws
    (fair_turns ws)
    (set ws i more)
    (fair_turns (set ws i more))
    (fair ws h)
    (fair (set ws i more) (length-set ws i more ∙ h))
    (sym (length-set ws i more))
    i
    (set_least ws i more l)
    (λ j apart. sym (get_or-set_other ws i j more 0 apart))

-- no other grants are fair
pub only_fair : (wishes grants : List ℕ) → length wishes ≡ CHANNELS → Fair wishes grants → grants ≡ fair_turns wishes
only_fair ws gs h is =
    let fts = fair ws h in
    ext_get_or 0 gs (fair_turns ws) (is.for_each ∙ sym fts.for_each) (λ i _. le_antisymm
    (no_less ws gs ws (fair_turns ws) is fts refl i (omega arith) (λ j _. refl))
    (no_less ws (fair_turns ws) ws gs fts is refl i (omega arith) (λ j _. refl)))

-- ---- the number of rounds

more_rounds : (m n : ℕ) (ws gs : List ℕ) → rounds (m + n) ws gs ≡ rounds n ws (rounds m ws gs)
more_rounds zero n ws gs = rw (zero-add n) (ap (rounds n ws) (sym (no_round ws gs)))
more_rounds (suc m) n ws gs =
    rw (suc-add m n) (next_round (m + n) ws gs ∙ more_rounds m n ws (round (remaining gs) ws gs) ∙ ap (rounds n ws) (sym (next_round m ws gs)))

served_rounds : (n : ℕ) (ws : List ℕ) → rounds n ws ws ≡ ws
served_rounds zero ws = no_round ws ws
served_rounds (suc n) ws = next_round n ws ws ∙ ap (rounds n ws) (all_served (remaining ws) ws) ∙ served_rounds n ws

settled : (ws : List ℕ) → length ws ≡ CHANNELS → (n : ℕ) → rounds n ws (fair_turns ws) ≡ fair_turns ws
settled ws h n = go (ltb CALLS (sum ws)) refl
  where
    go : (b : Bool) → ltb CALLS (sum ws) ≡ b → rounds n ws (fair_turns ws) ≡ fair_turns ws
    go true e = idle_rounds n ws (fair_turns ws) (omega (arith, ltb-true CALLS (sum ws) e, (fair ws h).total))
    go false e = rw (all_granted ws (ltb-false CALLS (sum ws) e)) (served_rounds n ws)

-- 256 rounds hand out all that is ever handed out
pub later_rounds_idle : (wishes : List ℕ) → length wishes ≡ CHANNELS → (n : ℕ) → rounds (CALLS + n) wishes (first_shares wishes) ≡ fair_turns wishes
later_rounds_idle ws h n = more_rounds CALLS n ws (first_shares ws) ∙ ap (rounds n ws) (sym (rounds_of ws)) ∙ settled ws h n
