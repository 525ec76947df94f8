-- The round over the channels in order, told by the wishes from channel i on. Assumes nothing.
use mathlib.Core.Path.{◌≡◌, sym, ap, ◌∙◌}
use mathlib.Core.List.{List, [], ◌∷◌, ◌++◌, append-nil, append_assoc}
use Prim.Native.Nat.{ℕ, ◌+◌, ◌-◌, ◌≤◌, ◌<◌, min}
use native.Mathlib.Numerals.{add-one}
use lib.ListN.{length, get_or, take, drop, set, drop_of_length-le}
use lib.Seq.{drop-cons, take_all, take-suc-set}
use Rattle.turns.specs.Turns.{capped, single, round}

-- channel i, and those behind it
from_here : (ws : List ℕ) (i : ℕ) → i < length ws → drop i ws ≡ get_or ws i 0 ∷ drop (i + 1) ws
from_here ws i h = rw (add-one, drop-cons ws i 0)

-- ---- a round from a level, of which the first i grants are written

module _ (ws gs : List ℕ) (i left L : ℕ) where
  pub write_next :
      i < length ws →
      i < length gs →
      let grant = min (get_or ws i 0) L in
      let one = single left (get_or ws i 0) grant in
      take (i + 1) (set gs i (grant + one)) ++ round (left - one) (drop (i + 1) ws) (capped L (drop (i + 1) ws))
      ≡ take i gs ++ round left (drop i ws) (capped L (drop i ws))
  unfolding round
  write_next h k =
      let grant = min (get_or ws i 0) L in
      let one = single left (get_or ws i 0) grant in
      let behind = round (left - one) (drop (i + 1) ws) (capped L (drop (i + 1) ws)) in
      ap (λ (n : ℕ). take n (set gs i (grant + one)) ++ behind) (add-one i)
      ∙ ap (λ (l : List ℕ). l ++ behind) (take-suc-set gs i (grant + one) k)
      ∙ append_assoc (take i gs) ((grant + one) ∷ []) behind
      ∙ sym (ap (λ (l : List ℕ). take i gs ++ round left l (capped L l)) (from_here ws i h))

  pub write_end : length ws ≤ i → length gs ≤ i → take i gs ++ round left (drop i ws) (capped L (drop i ws)) ≡ gs
  unfolding round
  write_end h k =
      ap (λ (l : List ℕ). take i gs ++ round left l (capped L l)) (drop_of_length-le ws h) ∙ append-nil (take i gs) ∙ take_all i gs k
