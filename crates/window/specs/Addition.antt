-- Paper 5: what an addition gives and what it leaves, whatever the window holds. On a window that only additions wrote, this is what
-- `Kept` says of the list of accepted additions (`EveryList`). Definitions only.
use Rattle.std.specs.Prelude.{ℕ, ◌+◌, ◌-◌, ◌%◌, min, ◌≡◌, Result, leb, ltb, set}
use Rattle.answer.specs.Given.{Given, answered, refused, passed, refuse_if}
use Rattle.answer.specs.Answer.{given}
use Rattle.answer.specs.declared.Refusal.{Refusal}
pub use Rattle.window.specs.Ring.{next}
unfoldable pub use Rattle.window.specs.Ring.{lower, raise, remain, lowered}
use Rattle.window.specs.declared.Window.{Window}
use Rattle.window.specs.Window.{MOST, window_of, state_of}

-- how many strikes a window holds, and how many of them remain at minute m
unfoldable pub held : Window → ℕ
held w = min w.state.kept MOST

unfoldable pub remaining : Window → ℕ → ℕ
remaining w m = remain w.minutes m (held w) (w.state.first % MOST)

-- the window without the strikes that are dropped, and with the new one in the place after those that remain
unfoldable pub with_strike : Window → ℕ → ℕ → Window
with_strike w m o =
    let k = remaining w m in
    let gone = held w - k in
    let first = (w.state.first + gone) % MOST in
    let at = (first + k) % MOST in
    window_of
    (set w.minutes at m)
    (set w.origins at o)
    (raise (lowered w.origins gone (w.state.first % MOST) w.counts) o)
    (state_of first (k + 1) m)

-- what an addition gives: "An id above 11 still gets 4, tried first", 17 where "the minute is earlier than the last accepted one", and 18 where "4,096 strikes
-- remain after the drop, tried last"
unfoldable pub add_given : Window → ℕ → ℕ → Given (Unit {0})
add_given w m o =
    refuse_if (ltb 11 o) 4
    (refuse_if (ltb m w.state.last) 17
    (refuse_if (leb MOST (remaining w m)) 18
    passed))

-- the window after it: "a refused strike drops nothing"
abbrev pub window_after : Given (Unit {0}) → Window → ℕ → ℕ → Window
window_after (refused n) w m o = w
window_after (answered u) w m o = with_strike w m o

-- an addition to the window w answers a, and leaves v
pub record AddedTo (w : Window) (m o : ℕ) (a : Result (Unit {0}) Refusal) (v : Window) : Type 0 where
  pub answer : given a ≡ add_given w m o
  pub window : v ≡ window_after (add_given w m o) w m o
