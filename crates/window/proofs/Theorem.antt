-- Every list of additions to a window that starts empty.
--     Ready w acc     what makes additions to the window w do what the accepted additions acc say
--     one_addition    an addition to such a window gives what acc says, and leaves such a window
--     every_list      the theorem
-- Assumes nothing.
use mathlib.Core.Path.{◌≡◌, refl, sym, ◌∙◌, ap, subst}
use mathlib.Core.Bool.{true, false}
use mathlib.Core.List.{List, [], ◌∷◌, ◌++◌}
use Prim.Native.Nat.{ℕ, suc, ◌+◌, ◌-◌, ◌%◌, ◌<◌, ◌≤◌, min}
use native.Mathlib.Omega.{arith}
use native.Mathlib.Numerals.{add-one}
use borrow.Author.Tests.{ltb-true, ltb-false, leb-true, leb-false, le-ltb, le-leb, lt-leb}
use lib.Dec.{leb, ltb, lit<}
use lib.ListN.{length, set, length-set, length-replicate, get_or-replicate}
use Rattle.answer.specs.Given.{Given, refused, passed}
use Rattle.window.specs.declared.Window.{Window}
use Rattle.window.specs.Window.{MOST, empty_window}
use Rattle.window.specs.Addition.{raise, remain, lowered, remaining, with_strike, add_given, window_after}
use Rattle.window.specs.Kept.{Strike, within, last_from, last_minute, kept, given_after, joined, accepted_after, accepted, count}
use Rattle.window.specs.EveryList.{ring, strikes_of, add_on, after, Holds, EveryList}
use Rattle.window.proofs.Ways.{gets_4, gets_17, gets_18, gets_none, no_origin, too_early, no_room, has_room, counts_remaining, built, builds_window}
use Rattle.window.proofs.Recent.{either, Ordered, ordered_within, ordered_more, last_more, within_within, kept_more, drop_oldest, drops_within, length_more}
use Rattle.window.proofs.Counted.{Counted, one_more, adds_up}
use Rattle.window.proofs.RingStrikes.{ring_length, ring_more, ring_drops, counts_drop}

pub record Ready (w : Window) (acc : List Strike) : Type 0 where
  pub minutes : length w.minutes ≡ MOST
  pub origins : length w.origins ≡ MOST
  pub first : w.state.first < MOST
  pub strikes : strikes_of w ≡ kept acc
  pub counted : Counted w.counts (kept acc)
  pub number : w.state.kept ≡ length (kept acc)
  pub most : length (kept acc) ≤ MOST
  pub last : w.state.last ≡ last_minute acc
  pub ordered : Ordered 0 acc

-- an addition s to the window w whose accepted additions are acc
module _ (w : Window) (acc : List Strike) (s : Strike) (z : Ready w acc) where
  abbrev m : ℕ
  m = s.minute

  abbrev o : ℕ
  o = s.origin

  pub record Does : Type 0 where
    pub gives : add_given w m o ≡ given_after acc s
    pub leaves : Ready (add_on w s) (joined (given_after acc s) acc s)

  does : (g : Given (Unit {0})) → add_given w m o ≡ g → given_after acc s ≡ g → Ready (window_after g w m o) (joined g acc s) → Does
  does g e a r = record { gives = e ∙ sym a; leaves = rw (e, a) r }

  -- ---- the strikes that are left: k of n, from place f on
  abbrev n : ℕ
  n = w.state.kept

  abbrev k : ℕ
  k = remain w.minutes m n w.state.first

  abbrev gone : ℕ
  gone = n - k

  abbrev f : ℕ
  f = (w.state.first + gone) % MOST

  n_is : n ≡ min w.state.kept MOST
  n_is = omega (arith, z.number, z.most)

  first_is : w.state.first ≡ w.state.first % MOST
  first_is = omega (arith, z.first)

  k_is : k ≡ remaining w m
  k_is = counts_remaining w m n k n_is (ap (remain w.minutes m n) first_is)

  f_in : f < MOST
  f_in = omega arith

  module _ (named : o ≤ 11) (on-time : w.state.last ≤ m) where
    kept_ordered : Ordered 0 (kept acc)
    kept_ordered = ordered_within 0 (last_minute acc) acc z.ordered

    drops_to : drop_oldest m (strikes_of w) ≡ within m acc
    drops_to =
        ap (drop_oldest m) z.strikes
        ∙ drops_within 0 m (kept acc) kept_ordered
        ∙ within_within (last_minute acc) m acc (omega (arith, z.last))

    left : ring w.minutes w.origins f k ≡ within m acc
    left = ring_drops w.minutes w.origins m n w.state.first z.first ∙ drops_to

    left_many : k ≡ length (within m acc)
    left_many = sym (ring_length w.minutes w.origins f k) ∙ ap length left

    abbrev counts : List ℕ
    counts = lowered w.origins gone w.state.first w.counts

    left_counted : Counted counts (within m acc)
    left_counted =
        let in_order = subst (Ordered 0) (sym z.strikes) kept_ordered in
        let right = subst (Counted w.counts) (sym z.strikes) z.counted in
        subst (Counted counts) drops_to (counts_drop w.minutes w.origins m n w.state.first w.counts 0 in_order right)

    not_early : ltb m (last_minute acc) ≡ false
    not_early = le-ltb m (last_minute acc) (omega (arith, z.last))

    full : MOST ≤ k → Does
    unfolding given_after
    full h =
        let many : MOST ≤ length (within m acc) = omega (arith, left_many) in
        does (refused 18) (no_room w m o named on-time (subst (λ (i : ℕ). MOST ≤ i) k_is h))
        (gets_18 (le-ltb 11 o named) not_early (le-leb MOST (length (within m acc)) many)) z

    -- ---- the strike is added to them, in place p
    abbrev p : ℕ
    p = (f + k) % MOST

    abbrev v : Window
    v = built w m o gone k (raise counts o)

    now_many : length (kept (acc ++ (s ∷ []))) ≡ suc (length (within m acc))
    now_many = ap length (kept_more acc s) ∙ length_more (within m acc) s

    added : k < MOST → Ready v (acc ++ (s ∷ []))
    added h =
        let few : length (within m acc) < MOST = omega (arith, left_many) in
        record {
          minutes = length-set w.minutes p m ∙ z.minutes;
          origins = length-set w.origins p o ∙ z.origins;
          first = f_in;
          strikes =
              ap (ring (set w.minutes p m) (set w.origins p o) f) (add-one k)
              ∙ ring_more w.minutes w.origins m o z.minutes z.origins f k p f_in h refl
              ∙ ap (λ (l : List Strike). l ++ (s ∷ [])) left
              ∙ sym (kept_more acc s);
          counted = subst (Counted (raise counts o)) (sym (kept_more acc s)) (one_more counts s (within m acc) (omega (arith, named)) few left_counted);
          number = omega (arith, left_many, now_many);
          most = omega (arith, now_many, few);
          last = sym (last_more 0 acc s);
          ordered = ordered_more 0 acc s z.ordered (omega (arith, z.last)) (omega (arith, named));
        }

    v_is : v ≡ with_strike w m o
    v_is =
        let at_first = ap (λ (i : ℕ). lowered w.origins gone i w.counts) first_is in
        builds_window w m o n k gone counts (raise counts o) n_is k_is refl at_first refl

    room : k < MOST → Does
    unfolding given_after
    room h =
        let few : length (within m acc) < MOST = omega (arith, left_many) in
        does passed (has_room w m o named on-time (subst (λ (i : ℕ). i < MOST) k_is h))
        (gets_none (le-ltb 11 o named) not_early (lt-leb MOST (length (within m acc)) few))
        (subst (λ (u : Window). Ready u (acc ++ (s ∷ []))) v_is (added h))

  pub one_addition : Does
  unfolding given_after
  one_addition =
      either (ltb 11 o)
      (λ t. does (refused 4) (no_origin w m o (ltb-true 11 o t)) (gets_4 (ltb m (last_minute acc)) (leb MOST (length (within m acc))) t) z)
      (λ t. either (ltb m w.state.last)
      (λ u.
      let early : ltb m (last_minute acc) ≡ true = ap (ltb m) (sym z.last) ∙ u in
      does (refused 17) (too_early w m o (ltb-false 11 o t) (ltb-true m w.state.last u)) (gets_17 (leb MOST (length (within m acc))) t early) z)
      (λ u. either (leb MOST k)
      (λ h. full (ltb-false 11 o t) (ltb-false m w.state.last u) (leb-true MOST k h))
      (λ h. room (ltb-false 11 o t) (ltb-false m w.state.last u) (leb-false MOST k h))))

-- ---- every list
pub from_ready : (w : Window) (acc ss : List Strike) → Ready w acc → Ready (after w ss) (accepted_after acc ss)
unfolding accepted_after after
from_ready w acc [] z = z
from_ready w acc (s ∷ ss) z = from_ready (add_on w s) (joined (given_after acc s) acc s) ss (one_addition w acc s z).leaves

pub empty_ready : Ready empty_window []
unfolding empty_window within last_from count ring
empty_ready = record {
  minutes = length-replicate {A = ℕ} MOST 0;
  origins = length-replicate {A = ℕ} MOST 0;
  first = lit< tt;
  strikes = refl;
  counted = record { many = refl; each = λ k l. get_or-replicate 12 k 0 0 l };
  number = refl;
  most = omega arith;
  last = refl;
  ordered = tt;
}

pub holds : (w : Window) (acc : List Strike) → Ready w acc → Holds w acc
holds w acc z = record {
  strikes = z.strikes;
  counts = z.counted.each;
  twelve = z.counted.many;
  total = adds_up w.counts 0 (kept acc) (ordered_within 0 (last_minute acc) acc z.ordered) z.counted ∙ sym z.number;
  number = z.number;
  most = z.most;
  last = z.last;
  answers = λ s. (one_addition w acc s z).gives;
}

pub ready : (ss : List Strike) → Ready (after empty_window ss) (accepted ss)
ready ss = from_ready empty_window [] ss empty_ready

pub every_list : EveryList
every_list ss = holds (after empty_window ss) (accepted ss) (ready ss)
