-- The four ways in which an addition ends, on the definition: what it gives, and what it leaves.
--     gets_4, gets_17, gets_18, gets_none       three tests in turn
--     no_origin, too_early, no_room, has_room   what an addition gives, by the tests
--     leaves, adds                              the contract of an addition, from what it gives
--     counts_remaining, builds_window           what the code works out is what the definitions say
-- Assumes nothing.
use mathlib.Core.Path.{◌≡◌, sym, ap}
use Rattle.std.specs.Prelude.{Ok, Err}
use mathlib.Core.Bool.{Bool, true, false}
use mathlib.Core.List.{List}
use Prim.Native.Nat.{ℕ, ◌+◌, ◌-◌, ◌%◌, ◌<◌, ◌≤◌, min}
use borrow.Author.Tests.{lt-ltb, le-ltb, le-leb, lt-leb}
use lib.Dec.{leb, ltb}
use lib.ListN.{set}
use Rattle.answer.specs.Given.{Given, refused, passed, refuse_if}
use Rattle.answer.specs.Answer.{number_of}
use Rattle.answer.specs.declared.Refusal.{Refusal}
use Rattle.window.specs.declared.Window.{Window}
use Rattle.window.specs.Window.{MOST, window_of, state_of}
use Rattle.window.specs.Addition.{raise, remain, lowered, held, remaining, with_strike, add_given, window_after, AddedTo}

abbrev tried : Bool → Bool → Bool → Given (Unit {0})
tried a b c = refuse_if a 4 (refuse_if b 17 (refuse_if c 18 passed))

pub gets_4 : {a : Bool} (b c : Bool) → a ≡ true → tried a b c ≡ refused 4
gets_4 b c ea = rw ea

pub gets_17 : {a b : Bool} (c : Bool) → a ≡ false → b ≡ true → tried a b c ≡ refused 17
gets_17 c ea eb = rw (ea, eb)

pub gets_18 : {a b c : Bool} → a ≡ false → b ≡ false → c ≡ true → tried a b c ≡ refused 18
gets_18 ea eb ec = rw (ea, eb, ec)

pub gets_none : {a b c : Bool} → a ≡ false → b ≡ false → c ≡ false → tried a b c ≡ passed
gets_none ea eb ec = rw (ea, eb, ec)

module _ (w : Window) (m o : ℕ) where
  pub no_origin : 11 < o → add_given w m o ≡ refused 4
  unfolding add_given
  no_origin h = gets_4 (ltb m w.state.last) (leb MOST (remaining w m)) (lt-ltb 11 o h)

  pub too_early : o ≤ 11 → m < w.state.last → add_given w m o ≡ refused 17
  unfolding add_given
  too_early h l = gets_17 (leb MOST (remaining w m)) (le-ltb 11 o h) (lt-ltb m w.state.last l)

  module _ (h : o ≤ 11) (l : w.state.last ≤ m) where
    pub no_room : MOST ≤ remaining w m → add_given w m o ≡ refused 18
    unfolding add_given
    no_room k = gets_18 (le-ltb 11 o h) (le-ltb m w.state.last l) (le-leb MOST (remaining w m) k)

    pub has_room : remaining w m < MOST → add_given w m o ≡ passed
    unfolding add_given
    has_room k = gets_none (le-ltb 11 o h) (le-ltb m w.state.last l) (lt-leb MOST (remaining w m) k)

  -- one that is refused with r leaves the window
  pub leaves : (r : Refusal) → add_given w m o ≡ refused (number_of r) → AddedTo w m o (Err r) w
  leaves r e = record { answer = sym e; window = sym (ap (λ (g : Given (Unit {0})). window_after g w m o) e) }

  pub adds : (v : Window) → v ≡ with_strike w m o → add_given w m o ≡ passed → AddedTo w m o (Ok tt) v
  adds v ev e = record { answer = sym e; window = rw e ev }

pub counts_remaining : (w : Window) (m n k : ℕ) → n ≡ min w.state.kept MOST → k ≡ remain w.minutes m n (w.state.first % MOST) → k ≡ remaining w m
unfolding held remaining
counts_remaining w m n k en ek = simp (ek, en)

-- the window with `gone` of its n strikes dropped and the strike m, o behind the k that remain
abbrev pub built : Window → ℕ → ℕ → ℕ → ℕ → List ℕ → Window
built w m o gone k counts =
    let first = (w.state.first + gone) % MOST in
    let at = (first + k) % MOST in
    window_of (set w.minutes at m) (set w.origins at o) counts (state_of first (k + 1) m)

pub builds_window : (w : Window) (m o n k gone : ℕ) (counts counts' : List ℕ) → n ≡ min w.state.kept MOST → k ≡ remaining w m → gone ≡ n - k
    → counts ≡ lowered w.origins gone (w.state.first % MOST) w.counts → counts' ≡ raise counts o → built w m o gone k counts' ≡ with_strike w m o
unfolding held with_strike
builds_window w m o n k gone counts counts' en ek eg ec ec' = simp (ec', ec, eg, ek, en)
