-- One turn of each loop, on the definitions: of n strikes g are behind it.
--     stays, goes, none_left   `remain` where the strike at hand stays, where it is dropped, and where there is none
--     one_off, all_off         `lowered` by the strike at hand, and where there is none
-- Assumes nothing.
use Rattle.std.proofs.Common.{◌≡◌, ℕ, suc, ◌+◌, ◌-◌, ◌<◌, ◌≤◌, List, get_or, arith, le-leb}
use borrow.Author.Tests.{lt-leb}
use Rattle.window.specs.Ring.{SPAN, lower, next, remain, lowered}

here : (n g : ℕ) → g < n → n - g ≡ suc (n - (g + 1))
here n g l = omega arith

over : (n g : ℕ) → n ≤ g → n - g ≡ 0
over n g l = omega arith

-- d is how far the strike at hand is behind minute m
module _ (ms : List ℕ) (m n g at d : ℕ) (behind : d ≡ m - get_or ms at 0) (l : g < n) where
  pub stays : d < SPAN → n - g ≡ remain ms m (n - g) at
  unfolding remain
  stays t = rw (here n g l) (simp (lt-leb _ _ (rw behind at t)))

  pub goes : SPAN ≤ d → remain ms m (n - (g + 1)) (next at) ≡ remain ms m (n - g) at
  unfolding remain
  goes t = rw (here n g l) (simp (le-leb _ _ (rw behind at t)))

pub none_left : (ms : List ℕ) (m n g at : ℕ) → n ≤ g → 0 ≡ remain ms m (n - g) at
unfolding remain
none_left ms m n g at l = rw (over n g l)

pub one_off : (os : List ℕ) (n g at : ℕ) (counts : List ℕ) → g < n
    → lowered os (n - (g + 1)) (next at) (lower counts (get_or os at 0)) ≡ lowered os (n - g) at counts
unfolding lowered
one_off os n g at counts l = rw (here n g l)

pub all_off : (os : List ℕ) (n g at : ℕ) (counts : List ℕ) → n ≤ g → counts ≡ lowered os (n - g) at counts
unfolding lowered
all_off os n g at counts l = rw (over n g l)
