-- The twelve counts of a list of strikes: what one less and one more leave, and that they add up to the list's length.
-- Assumes nothing.
use mathlib.Core.Path.{◌≡◌, refl, sym, ◌∙◌, ap, subst}
use mathlib.Core.Bool.{false, cond}
use mathlib.Core.List.{List, [], ◌∷◌, ◌++◌}
use Prim.Native.Nat.{ℕ, zero, suc, ◌+◌, ◌-◌, ◌%◌, ◌^◌, ◌<◌, ◌≤◌}
use native.Mathlib.Omega.{arith}
use borrow.Author.Tests.{eqb-true, eqb-false, lt-ltb, eq-eqb, ne_eqb}
use lib.Dec.{eqb}
use lib.ListN.{length, get_or, set, length-set}
use lib.Seq.{get_or-set_same, get_or-set_other}
use Rattle.window.specs.Window.{MOST}
use Rattle.window.specs.Addition.{lower, raise}
use Rattle.window.specs.Kept.{Strike, count}
use Rattle.window.specs.EveryList.{sum}
use Rattle.window.proofs.Recent.{either, Ordered, count_more, count_most}

pub record Counted (counts : List ℕ) (ss : List Strike) : Type 0 where
  pub many : length counts ≡ 12
  pub each : (k : ℕ) → k < 12 → get_or counts k 0 ≡ count k ss

-- the counts of the strikes ss, with v for origin j, are those of rs, if v is right and rs has as many of each other origin
recounted : (counts : List ℕ) (j v : ℕ) (ss rs : List Strike) → j < 12 → Counted counts ss → v ≡ count j rs
    → ((k : ℕ) → eqb j k ≡ false → count k ss ≡ count k rs) → Counted (set counts j v) rs
recounted counts j v ss rs h c right others = record {
  many = length-set counts j v ∙ c.many;
  each = λ k l. either (eqb j k)
      (λ t.
      let here : get_or (set counts j v) j 0 ≡ v = get_or-set_same counts j v 0 (omega (arith, c.many)) in
      subst (λ (i : ℕ). get_or (set counts j v) i 0 ≡ count i rs) (eqb-true j k t) (here ∙ right))
      (λ t. get_or-set_other counts j k v 0 (λ z. eqb-false j k t (sym z)) ∙ c.each k l ∙ others k t);
}

pub one_less : (counts : List ℕ) (s : Strike) (ss : List Strike) → s.origin < 12 → Counted counts (s ∷ ss) → Counted (lower counts s.origin) ss
unfolding lower count
one_less counts s ss h c =
    let j = s.origin in
    let before : get_or counts j 0 ≡ suc (count j ss) = c.each j h ∙ simp (eq-eqb j j refl) in
    rw (lt-ltb j 12 h) (recounted counts j (get_or counts j 0 - 1) (s ∷ ss) ss h c (omega (arith, before)) (λ k t. simp t))

pub one_more : (counts : List ℕ) (s : Strike) (ss : List Strike) → s.origin < 12 → length ss < MOST → Counted counts ss
    → Counted (raise counts s.origin) (ss ++ (s ∷ []))
unfolding raise count
one_more counts s ss h few c =
    let j = s.origin in
    let own : count j (s ∷ []) ≡ 1 = simp (eq-eqb j j refl) in
    let others : (k : ℕ) → eqb j k ≡ false → count k ss ≡ count k (ss ++ (s ∷ [])) =
    λ k t. let none : count k (s ∷ []) ≡ 0 = simp t in omega (arith, none, count_more k ss s) in
    rw (lt-ltb j 12 h)
    (recounted counts j ((get_or counts j 0 + 1) % 2 ^ 32) ss (ss ++ (s ∷ [])) h c (omega (arith, own, c.each j h, count_most j ss, count_more j ss s)) others)

-- ---- the counts add up
-- f a + f (a + 1) + .., n summands
abbrev upto : (ℕ → ℕ) → ℕ → ℕ → ℕ
upto f a zero = 0
upto f a (suc n) = f a + upto f (suc a) n

upto_next : (c : ℕ) (cs : List ℕ) (a n : ℕ) → upto (λ i. get_or (c ∷ cs) i 0) (suc a) n ≡ upto (λ i. get_or cs i 0) a n
upto_next c cs a zero = refl
upto_next c cs a (suc n) = ap (λ (x : ℕ). get_or cs a 0 + x) (upto_next c cs (suc a) n)

sum_upto : (cs : List ℕ) → sum cs ≡ upto (λ i. get_or cs i 0) 0 (length cs)
sum_upto [] = refl
sum_upto (c ∷ cs) = ap (λ (x : ℕ). c + x) (sum_upto cs ∙ sym (upto_next c cs 0 (length cs)))

upto_same : (f g : ℕ → ℕ) (a n : ℕ) → ((k : ℕ) → a ≤ k → k < a + n → f k ≡ g k) → upto f a n ≡ upto g a n
upto_same f g a zero h = refl
upto_same f g a (suc n) h = λ i. h a (omega arith) (omega arith) i + upto_same f g (suc a) n (λ k l u. h k (omega arith) (omega arith)) i

-- f with one more at j
abbrev bumped : ℕ → (ℕ → ℕ) → ℕ → ℕ
bumped j f k = cond (eqb j k) (suc (f k)) (f k)

past : (j : ℕ) (f : ℕ → ℕ) (a n : ℕ) → j < a → upto (bumped j f) a n ≡ upto f a n
past j f a zero h = refl
past j f a (suc n) h = let z : j ≡ a → ⊥ = λ e. omega arith in simp (ne_eqb j a z, past j f (suc a) n (omega arith))

hit : (j : ℕ) (f : ℕ → ℕ) (a n : ℕ) → a ≤ j → j < a + n → upto (bumped j f) a n ≡ suc (upto f a n)
hit j f a zero h l = absurd (omega arith)
hit j f a (suc n) h l =
    either (eqb j a)
    (λ t. let z : j ≡ a = eqb-true j a t in simp t (omega (arith, past j f (suc a) n (omega arith))))
    (λ t. let z : j ≡ a → ⊥ = eqb-false j a t in simp t (omega (arith, hit j f (suc a) n (omega (arith, z)) (omega arith))))

all_counted : (l : ℕ) (ss : List Strike) → Ordered l ss → upto (λ k. count k ss) 0 12 ≡ length ss
unfolding count
all_counted l [] r = refl
all_counted l (s ∷ ss) r = hit s.origin (λ k. count k ss) 0 12 (omega arith) (omega (arith, r.1)) ∙ ap suc (all_counted s.minute ss r.2)

pub adds_up : (counts : List ℕ) (l : ℕ) (ss : List Strike) → Ordered l ss → Counted counts ss → sum counts ≡ length ss
adds_up counts l ss r c =
    sum_upto counts
    ∙ ap (upto (λ i. get_or counts i 0) 0) c.many
    ∙ upto_same (λ i. get_or counts i 0) (λ k. count k ss) 0 12 (λ k _ u. c.each k (omega arith))
    ∙ all_counted l ss r
