-- Two turns with fair grants, in which one channel wishes for more in the second and all others for the same: it gets no less. Assumes nothing.
use mathlib.Core.Path.{◌≡◌, refl, sym, ◌∙◌}
use mathlib.Core.Logic.{⊎_elim}
use mathlib.Core.Bool.{Bool, true, false}
use mathlib.Core.List.{List}
use Prim.Native.Nat.{ℕ, ◌+◌, ◌≤◌, ◌<◌}
use native.Mathlib.Omega.{arith}
use lib.Dec.{ltb}
use lib.ListN.{length}
use borrow.Author.Tests.{ltb-true, ltb-false}
use Rattle.turns.specs.Turns.{SHARE, sum}
use Rattle.turns.specs.Fair.{of, beyond, Fair}
use Rattle.turns.proofs.Sums.{less_somewhere, sum_less}

-- a channel that has its first share of 16 has the rest beyond it
over_share : (ws gs : List ℕ) (k : ℕ) → SHARE ≤ of gs k → of gs k ≤ of ws k → beyond ws gs k + SHARE ≡ of gs k
unfolding beyond
over_share ws gs k h e = omega arith

module _ (ws gs : List ℕ) (is : Fair ws gs) where
  -- who is short has his first share, and it is 16
  short_share : (k : ℕ) → of gs k < of ws k → SHARE ≤ of gs k
  short_share k h = omega (arith, is.at_least k)

  pub short_beyond : (k : ℕ) → of gs k < of ws k → beyond ws gs k + SHARE ≡ of gs k
  short_beyond k h = over_share ws gs k (short_share k h) (is.at_most k)

module _
    (ws gs vs hs : List ℕ)
    (one : Fair ws gs)
    (two : Fair vs hs)
    (same : length ws ≡ length vs)
    (i : ℕ)
    (more : of ws i ≤ of vs i)
    (others : (j : ℕ) → (j ≡ i → ⊥) → of ws j ≡ of vs j) where
  -- If it had less in the second, it would be short there, and so all calls handed out; another one, j, would then have more there, and be short in the first.
  -- Whichever of the two comes first, one of them is behind the other by too much in one of the turns.
  not_less : of hs i < of gs i → ⊥
  not_less less = ⊎_elim (λ f. another f.0 f.1) nowhere (less_somewhere gs hs lengths)
    where
      lengths : length gs ≡ length hs
      lengths = one.for_each ∙ same ∙ sym two.for_each

      short_i : of hs i < of vs i
      short_i = omega (arith, one.at_most i)

      sums : sum gs ≤ sum hs
      sums = omega (arith, sum_less hs vs two.for_each two.at_most i short_i, one.total, two.total)

      nowhere : ((k : ℕ) → of hs k ≤ of gs k) → ⊥
      nowhere h = omega (arith, sums, sum_less hs gs (sym lengths) h i less)

      another : (j : ℕ) → of gs j < of hs j → ⊥
      another j ahead = go (ltb i j) refl
        where
          apart : j ≡ i → ⊥
          apart e = let there : of gs i < of hs i = rw e at ahead in omega arith

          short_j : of gs j < of ws j
          short_j = omega (arith, others j apart, two.at_most j)

          share : SHARE ≤ of hs i
          share = short_share vs hs two i short_i

          gi : beyond ws gs i + SHARE ≡ of gs i
          gi = over_share ws gs i (omega (arith, share)) (one.at_most i)

          hi : beyond vs hs i + SHARE ≡ of hs i
          hi = short_beyond vs hs two i short_i

          gj : beyond ws gs j + SHARE ≡ of gs j
          gj = short_beyond ws gs one j short_j

          hj : beyond vs hs j + SHARE ≡ of hs j
          hj = over_share vs hs j (omega (arith, gj)) (two.at_most j)

          go : (b : Bool) → ltb i j ≡ b → ⊥
          go true e =
              let h = ltb-true i j e in
              omega (arith, gi, hi, gj, hj, one.one_behind i j h short_j, two.not_behind i j h short_i)
          go false e =
              let h : j < i = omega (arith, ltb-false i j e, apart) in
              omega (arith, gi, hi, gj, hj, one.not_behind j i h short_j, two.one_behind j i h short_i)

  pub no_less : of gs i ≤ of hs i
  no_less = go (ltb (of hs i) (of gs i)) refl
    where
      go : (b : Bool) → ltb (of hs i) (of gs i) ≡ b → of gs i ≤ of hs i
      go true e = absurd (not_less (ltb-true (of hs i) (of gs i) e))
      go false e = ltb-false (of hs i) (of gs i) e
