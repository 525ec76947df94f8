-- What follows, for a reader who tries the claim.
--     refused_leaves   a refused addition leaves the window as it was, whatever it holds
--     equal_minute     "An equal minute is accepted", where there is room
--     leaves_itself    a strike 180 minutes after the last accepted one is accepted, and alone in the window then
--     fills            4,096 strikes of one minute are all kept; the next of that minute gets 18, and one 180 minutes later is accepted
-- Assumes nothing.
use mathlib.Core.Path.{◌≡◌, sym, ◌∙◌, ap}
use mathlib.Core.List.{List, [], ◌∷◌, ◌++◌, append_assoc, append-nil}
use Prim.Native.Nat.{ℕ, ◌+◌, ◌<◌, ◌≤◌}
use native.Mathlib.Omega.{arith}
use borrow.Author.Tests.{le-ltb, le-leb, lt-leb}
use lib.ListN.{length}
use Rattle.answer.specs.Given.{Given, refused, passed}
use Rattle.window.specs.declared.Window.{Window}
use Rattle.window.specs.Window.{MOST, SPAN, empty_window}
use Rattle.window.specs.Addition.{add_given, window_after}
use Rattle.window.specs.Kept.{Strike, strike, within, last_from, last_minute, kept, given_after, joined, accepted_after, accepted}
use Rattle.window.specs.EveryList.{strikes_of, add_on, after}
use Rattle.window.specs.Consequences.{InMinute}
use Rattle.window.proofs.Ways.{gets_18, gets_none}
use Rattle.window.proofs.Recent.{Ordered, within_all, within_none, kept_more, length_more}
use Rattle.window.proofs.Theorem.{one_addition, ready, every_list}

pub refused_leaves : (w : Window) (m o n : ℕ) → add_given w m o ≡ refused n → window_after (add_given w m o) w m o ≡ w
refused_leaves w m o n e = ap (λ (g : Given (Unit {0})). window_after g w m o) e

-- an addition that is named, not too early and has room
accepts : (acc : List Strike) (s : Strike) → s.origin ≤ 11 → last_minute acc ≤ s.minute → length (within s.minute acc) < MOST → given_after acc s ≡ passed
unfolding given_after
accepts acc s o l few = gets_none (le-ltb _ _ o) (le-ltb _ _ l) (lt-leb _ _ few)

pub equal_minute : (ss : List Strike) (o : ℕ) → o ≤ 11 → (after empty_window ss).state.kept < MOST
    → add_given (after empty_window ss) (last_minute (accepted ss)) o ≡ passed
equal_minute ss o h few =
    let acc = accepted ss in
    let z = every_list ss in
    let s = strike (last_minute acc) o in
    z.answers s ∙ accepts acc s h (omega arith) (omega (arith, z.number))

-- after the additions ss, a strike that is 180 minutes or more after the last accepted one
module _ (ss : List Strike) (s : Strike) (named : s.origin ≤ 11) (later : last_minute (accepted ss) + SPAN ≤ s.minute) where
  none_recent : within s.minute (accepted ss) ≡ []
  none_recent = within_none 0 s.minute (accepted ss) (ready ss).ordered later

  gives_passed : given_after (accepted ss) s ≡ passed
  gives_passed = accepts (accepted ss) s named (omega arith) (rw none_recent (omega arith))

  pub is_accepted : add_given (after empty_window ss) s.minute s.origin ≡ passed
  is_accepted = (every_list ss).answers s ∙ gives_passed

  pub leaves_itself : strikes_of (add_on (after empty_window ss) s) ≡ s ∷ []
  leaves_itself =
      let left = (one_addition (after empty_window ss) (accepted ss) s (ready ss)).leaves in
      left.strikes
      ∙ ap (λ (g : Given (Unit {0})). kept (joined g (accepted ss) s)) gives_passed
      ∙ kept_more (accepted ss) s
      ∙ ap (λ (l : List Strike). l ++ (s ∷ [])) none_recent

-- ---- strikes of one minute
in_order : (l m : ℕ) (ss : List Strike) → l ≤ m → InMinute m ss → Ordered l ss
unfolding InMinute
in_order l m [] h c = tt
in_order l m (s ∷ ss) h c = (omega (arith, c.0), omega (arith, c.1), in_order s.minute m ss (omega (arith, c.0)) c.2)

last_in : (l m : ℕ) (ss : List Strike) → l ≤ m → InMinute m ss → last_from l ss ≤ m
unfolding last_from InMinute
last_in l m [] h c = h
last_in l m (s ∷ ss) h c = last_in s.minute m ss (omega (arith, c.0)) c.2

in_minute_more : (m : ℕ) (acc : List Strike) (s : Strike) → InMinute m acc → s.minute ≡ m → s.origin ≤ 11 → InMinute m (acc ++ (s ∷ []))
unfolding InMinute
in_minute_more m [] s c e o = (e, o, tt)
in_minute_more m (r ∷ acc) s c e o = (c.0, c.1, in_minute_more m acc s c.2 e o)

all_within : (m : ℕ) (acc : List Strike) → InMinute m acc → within m acc ≡ acc
all_within m acc c = within_all m m acc (in_order m m acc (omega arith) c) (omega arith)

-- all are accepted as long as there is room
all_accepted : (m : ℕ) (acc ss : List Strike) → InMinute m acc → InMinute m ss → length acc + length ss ≤ MOST → accepted_after acc ss ≡ acc ++ ss
unfolding accepted_after InMinute
all_accepted m acc [] c d few = sym (append-nil acc)
all_accepted m acc (s ∷ ss) c d few =
    let many : length (within s.minute acc) ≡ length acc = ap (λ (i : ℕ). length (within i acc)) d.0 ∙ ap length (all_within m acc c) in
    let joins = accepts acc s d.1 (omega (arith, last_in 0 m acc (omega arith) c, d.0)) (omega (arith, many)) in
    ap (λ (g : Given (Unit {0})). accepted_after (joined g acc s) ss) joins
    ∙ all_accepted m (acc ++ (s ∷ [])) ss (in_minute_more m acc s c d.0 d.1) d.2 (omega (arith, length_more acc s))
    ∙ append_assoc acc (s ∷ []) ss

-- 4,096 strikes of one minute
module _ (m : ℕ) (ss : List Strike) (one : InMinute m ss) (many : length ss ≡ MOST) where
  accepts_all : accepted ss ≡ ss
  unfolding InMinute
  accepts_all = all_accepted m [] ss tt one (omega (arith, many))

  last_is : last_minute (accepted ss) ≤ m
  last_is = rw accepts_all (last_in 0 m ss (omega arith) one)

  pub fills : strikes_of (after empty_window ss) ≡ ss
  fills =
      (every_list ss).strikes
      ∙ ap kept accepts_all
      ∙ within_all m (last_minute ss) ss (in_order m m ss (omega arith) one) (omega (arith, last_in 0 m ss (omega arith) one))

  pub next_refused : (o : ℕ) → o ≤ 11 → add_given (after empty_window ss) m o ≡ refused 18
  unfolding given_after
  next_refused o h =
      let full : length (within m (accepted ss)) ≡ MOST = ap (λ (l : List Strike). length (within m l)) accepts_all ∙ ap length (all_within m ss one) ∙ many in
      (every_list ss).answers (strike m o) ∙ gets_18 (le-ltb _ _ h) (le-ltb _ _ last_is) (le-leb MOST (length (within m (accepted ss))) (omega (arith, full)))

  pub later_accepted : (o later : ℕ) → o ≤ 11 → m + SPAN ≤ later → add_given (after empty_window ss) later o ≡ passed
  later_accepted o later h l = is_accepted ss (strike later o) h (omega (arith, last_is))
