-- Lists of strikes in the order of their minutes, and those of them that are recent.
--     Ordered        no strike is before the one in front of it, and each has an origin; what keeps it so
--     within-..      the recent ones: of strikes none of which is old, of recent ones, with one more at the end, of strikes all of which are old
--     drop_oldest     dropping from the oldest on, which leaves the recent ones
--     count-..       counts, and lengths, with one more at the end
-- Assumes nothing.
use mathlib.Core.Path.{◌≡◌, refl, ◌∙◌, ap}
use mathlib.Core.Bool.{Bool, true, false, cond}
use mathlib.Core.List.{List, [], ◌∷◌, ◌++◌}
use Prim.Native.Nat.{ℕ, suc, ◌+◌, ◌-◌, ◌<◌, ◌≤◌}
use native.Mathlib.Omega.{arith}
use borrow.Author.Tests.{ltb-true, ltb-false, lt-ltb, le-ltb, lt-leb, le-leb}
use lib.Dec.{eqb, leb, ltb}
use lib.ListN.{length}
use Rattle.window.specs.Window.{SPAN}
use Rattle.window.specs.Kept.{Strike, within, last_from, kept, count}

-- by whether a test holds
pub either : {P : Type 0} (t : Bool) → (t ≡ true → P) → (t ≡ false → P) → P
either true f g = f refl
either false f g = g refl

-- ---- the recent ones: the first of some strikes is one of them, or it is not
pub within_new : (m : ℕ) (s : Strike) (ss : List Strike) → m < s.minute + SPAN → within m (s ∷ ss) ≡ s ∷ within m ss
unfolding within
within_new m s ss new = ap (λ (t : Bool). cond t (s ∷ within m ss) (within m ss)) (lt-ltb m (s.minute + SPAN) new)

pub within_old : (m : ℕ) (s : Strike) (ss : List Strike) → s.minute + SPAN ≤ m → within m (s ∷ ss) ≡ within m ss
unfolding within
within_old m s ss old = ap (λ (t : Bool). cond t (s ∷ within m ss) (within m ss)) (le-ltb m (s.minute + SPAN) old)

pub by_age : {P : Type 0} (m : ℕ) (s : Strike) → (m < s.minute + SPAN → P) → (s.minute + SPAN ≤ m → P) → P
by_age m s new old = either (ltb m (s.minute + SPAN)) (λ t. new (ltb-true m (s.minute + SPAN) t)) (λ t. old (ltb-false m (s.minute + SPAN) t))

-- ---- strikes in order, none before minute l
abbrev pub Ordered : ℕ → List Strike → Type 0
Ordered l [] = Unit {0}
Ordered l (s ∷ ss) = (l ≤ s.minute) × (s.origin < 12) × Ordered s.minute ss

pub ordered_below : {l : ℕ} (k : ℕ) (ss : List Strike) → k ≤ l → Ordered l ss → Ordered k ss
ordered_below k [] h c = tt
ordered_below k (s ∷ ss) h c = (omega (arith, c.0), c.1, c.2)

pub ordered_within : (l m : ℕ) (ss : List Strike) → Ordered l ss → Ordered l (within m ss)
unfolding within
ordered_within l m [] c = tt
ordered_within l m (s ∷ ss) c =
    let rest = ordered_within s.minute m ss c.2 in
    by_age m s
    (λ new. rw (within_new m s ss new) (c.0, c.1, rest))
    (λ old. rw (within_old m s ss old) (ordered_below l (within m ss) c.0 rest))

pub ordered_more : (l : ℕ) (ss : List Strike) (s : Strike) → Ordered l ss → last_from l ss ≤ s.minute → s.origin < 12 → Ordered l (ss ++ (s ∷ []))
unfolding last_from
ordered_more l [] s c h o = (h, o, tt)
ordered_more l (r ∷ ss) s c h o = (c.0, c.1, ordered_more r.minute ss s c.2 h o)

-- the last is the latest
pub last_latest : (l : ℕ) (ss : List Strike) → Ordered l ss → l ≤ last_from l ss
unfolding last_from
last_latest l [] c = omega arith
last_latest l (s ∷ ss) c = omega (arith, c.0, last_latest s.minute ss c.2)

pub last_more : (l : ℕ) (ss : List Strike) (s : Strike) → last_from l (ss ++ (s ∷ [])) ≡ s.minute
unfolding last_from
last_more l [] s = refl
last_more l (r ∷ ss) s = last_more r.minute ss s

-- ---- the recent ones of strikes in order
pub within_all : (l m : ℕ) (ss : List Strike) → Ordered l ss → m < l + SPAN → within m ss ≡ ss
unfolding within
within_all l m [] c h = refl
within_all l m (s ∷ ss) c h =
    let new : m < s.minute + SPAN = omega (arith, c.0) in
    within_new m s ss new ∙ ap (λ (l : List Strike). s ∷ l) (within_all s.minute m ss c.2 new)

pub within_none : (l m : ℕ) (ss : List Strike) → Ordered l ss → last_from l ss + SPAN ≤ m → within m ss ≡ []
unfolding within last_from
within_none l m [] c h = refl
within_none l m (s ∷ ss) c h =
    let old : s.minute + SPAN ≤ m = omega (arith, last_latest s.minute ss c.2) in
    within_old m s ss old ∙ within_none s.minute m ss c.2 h

pub within_within : (l m : ℕ) (ss : List Strike) → l ≤ m → within m (within l ss) ≡ within m ss
unfolding within
within_within l m [] h = refl
within_within l m (s ∷ ss) h =
    let rest = within_within l m ss h in
    by_age l s
    (λ new. by_age m s
    (λ new'. rw (within_new l s ss new, within_new m s (within l ss) new', within_new m s ss new', rest))
    (λ old'. rw (within_new l s ss new, within_old m s (within l ss) old', within_old m s ss old', rest)))
    (λ old. rw (within_old l s ss old, within_old m s ss (omega arith), rest))

pub within_more : (m : ℕ) (ss : List Strike) (s : Strike) → m ≡ s.minute → within m (ss ++ (s ∷ [])) ≡ within m ss ++ (s ∷ [])
unfolding within
within_more m [] s e = within_new m s [] (omega arith)
within_more m (r ∷ ss) s e =
    let rest = within_more m ss s e in
    by_age m r
    (λ new. rw (within_new m r (ss ++ (s ∷ [])) new, within_new m r ss new, rest))
    (λ old. rw (within_old m r (ss ++ (s ∷ [])) old, within_old m r ss old, rest))

pub kept_more : (acc : List Strike) (s : Strike) → kept (acc ++ (s ∷ [])) ≡ within s.minute acc ++ (s ∷ [])
kept_more acc s = ap (λ (l : ℕ). within l (acc ++ (s ∷ []))) (last_more 0 acc s) ∙ within_more s.minute acc s refl

-- ---- dropping from the oldest on
abbrev pub drop_oldest : ℕ → List Strike → List Strike
drop_oldest m [] = []
drop_oldest m (s ∷ ss) = cond (leb SPAN (m - s.minute)) (drop_oldest m ss) (s ∷ ss)

pub drops_within : (l m : ℕ) (ss : List Strike) → Ordered l ss → drop_oldest m ss ≡ within m ss
unfolding within
drops_within l m [] c = refl
drops_within l m (s ∷ ss) c =
    by_age m s
    (λ new.
    let stays : m - s.minute < SPAN = omega arith in
    rw (lt-leb SPAN (m - s.minute) stays, within_new m s ss new, within_all s.minute m ss c.2 new))
    (λ old.
    let goes : SPAN ≤ m - s.minute = omega arith in
    rw (le-leb SPAN (m - s.minute) goes, within_old m s ss old, drops_within s.minute m ss c.2))

-- ---- counts and lengths
pub count_more : (k : ℕ) (ss : List Strike) (s : Strike) → count k (ss ++ (s ∷ [])) ≡ count k ss + count k (s ∷ [])
unfolding count
count_more k [] s = omega arith
count_more k (r ∷ ss) s =
    either (eqb r.origin k)
    (λ t. simp t (omega (arith, count_more k ss s)))
    (λ t. simp t (omega (arith, count_more k ss s)))

pub count_most : (k : ℕ) (ss : List Strike) → count k ss ≤ length ss
unfolding count
count_most k [] = omega arith
count_most k (s ∷ ss) = either (eqb s.origin k) (λ t. rw t (omega (arith, count_most k ss))) (λ t. rw t (omega (arith, count_most k ss)))

pub length_more : (ss : List Strike) (s : Strike) → length (ss ++ (s ∷ [])) ≡ suc (length ss)
length_more [] s = refl
length_more (r ∷ ss) s = ap suc (length_more ss s)
