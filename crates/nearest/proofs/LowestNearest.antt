-- "Nearest is the lowest-numbered origin with the least computed haversine", for every table and every point; and only one place of a
-- list is so. Assumes nothing.
use mathlib.Core.Path.{◌≡◌, refl, subst}
use mathlib.Core.Bool.{Bool, true, false}
use mathlib.Core.List.{List, [], ◌∷◌}
use Prim.Native.Nat.{ℕ, zero, suc, ◌+◌, ◌<◌}
use native.Mathlib.Omega.{arith}
use lib.ListN.{length, get_or}
use lib.Dec.{T}
use lib.Ieee.{Float, nan, inf, lt, eq}
use Rattle.arithmetic.specs.Arith.{Arith}
use Rattle.arithmetic.proofs.Order.{lt_irrefl, lt_below, lt_trans, eq_lt_trans, eq_of_not_lt}
use Rattle.coordinates.specs.declared.spherical.Spherical.{Spherical}
use Rattle.nearest.specs.Nearest.{least_from, least, haversines, nearest_origin}
use Rattle.nearest.specs.LowestNearest.{IsLeast, NearestIs}

never : (p : Bool) → (T p → ⊥) → p ≡ false
never true h = absurd (h tt)
never false h = refl

ever : (p : Bool) → (p ≡ false → ⊥) → T p
ever true h = tt
ever false h = h refl

clash : {p : Bool} → p ≡ false → T p → ⊥
clash e t = rw e at t

-- What the search finds in hs: nothing less than d, so that b stays, or the least at j, which is less than d and i + j in the whole.
data Found (hs : List Float) (d : Float) (i b : ℕ) : ℕ → Type 0 where
  none : ((j : ℕ) → j < length hs → lt (get_or hs j nan) d ≡ false) → Found hs d i b b
  one : (j : ℕ) → T (lt (get_or hs j nan) d) → IsLeast hs j → Found hs d i b (i + j)

-- ---- one number in front

-- the least of the rest, x, is the least still
later : (h : Float) (hs : List Float) (j : ℕ) (d : Float) → let x = get_or hs j nan in
    T (lt x d) → (T (lt h x) → ⊥) → (T (eq h x) → ⊥) → IsLeast hs j → IsLeast (h ∷ hs) (suc j)
later h hs j d t n m l =
    let x = get_or hs j nan in
    record {
      place = omega (arith, l.place);
      least = λ k. elim k as (λ k. k < length (h ∷ hs) → lt (get_or (h ∷ hs) k nan) x ≡ false)
          [ zero ↦ (λ p. never (lt h x) n) | suc k ↦ (λ p. l.least k (omega arith)) ];
      lowest = λ k. elim k as (λ k. k < suc j → eq (get_or (h ∷ hs) k nan) x ≡ false)
          [ zero ↦ (λ p. never (eq h x) m) | suc k ↦ (λ p. l.lowest k (omega arith)) ];
      number = λ e. absurd (clash e (lt_below x d t));
    }

-- the first is less than d, and the rest has been searched for what is less than it
first : (h : Float) (hs : List Float) (d : Float) (i b : ℕ) {r : ℕ} → T (lt h d) → Found hs h (suc i) i r → Found (h ∷ hs) d i b r
first h hs d i b t (none n) =
    subst (Found (h ∷ hs) d i b) (omega arith)
    (one 0 t
    record {
      place = omega arith;
      least = λ k. elim k as (λ k. k < length (h ∷ hs) → lt (get_or (h ∷ hs) k nan) h ≡ false)
          [ zero ↦ (λ p. never (lt h h) (lt_irrefl h)) | suc k ↦ (λ p. n k (omega arith)) ];
      lowest = λ k p. absurd (omega arith);
      number = λ e. absurd (clash e (lt_below h d t));
    })
first h hs d i b t (one j u l) =
    let x = get_or hs j nan in
    subst (Found (h ∷ hs) d i b) (omega arith)
    (one (suc j) (lt_trans x h d u t)
    (later h hs j h u (λ v. lt_irrefl h (lt_trans h x h v u)) (λ v. lt_irrefl h (eq_lt_trans h x h v u)) l))

-- the first is not, and the rest has been searched for what is less than d
next : (h : Float) (hs : List Float) (d : Float) (i b : ℕ) {r : ℕ} → lt h d ≡ false → Found hs d (suc i) b r → Found (h ∷ hs) d i b r
next h hs d i b e (none n) = none (λ k. elim k as (λ k. k < length (h ∷ hs) → lt (get_or (h ∷ hs) k nan) d ≡ false)
    [ zero ↦ (λ p. e) | suc k ↦ (λ p. n k (omega arith)) ])
next h hs d i b e (one j u l) =
    let x = get_or hs j nan in
    subst (Found (h ∷ hs) d i b) (omega arith)
    (one (suc j) u (later h hs j d u (λ v. clash e (lt_trans h x d v u)) (λ v. clash e (eq_lt_trans h x d v u)) l))

found : (hs : List Float) (d : Float) (i b : ℕ) → Found hs d i b (least_from i hs d b)
unfolding least_from
found [] d i b = none (λ j p. absurd (omega arith))
found (h ∷ hs) d i b = go (lt h d) refl (found hs h (suc i) i) (found hs d (suc i) b)
  where
    go : (p : Bool) → lt h d ≡ p → Found hs h (suc i) i (least_from (suc i) hs h i) → Found hs d (suc i) b (least_from (suc i) hs d b)
        → Found (h ∷ hs) d i b (elim p [ true ↦ least_from (suc i) hs h i | false ↦ least_from (suc i) hs d b ])
    go true e f g = first h hs d i b (rw e tt) f
    go false e f g = next h hs d i b e g

whole : (hs : List Float) {r : ℕ} → 0 < length hs → Found hs (inf false) 0 0 r → IsLeast hs r
whole hs h (none n) = record {
  place = h;
  least = λ i p. never (lt (get_or hs i nan) (get_or hs 0 nan)) (λ t. clash (n i p) (lt_below (get_or hs i nan) (get_or hs 0 nan) t));
  lowest = λ i p. absurd (omega arith);
  number = λ e. (refl, n);
}
whole hs h (one j t l) = subst (IsLeast hs) (omega arith) l

pub least_is : (hs : List Float) → 0 < length hs → IsLeast hs (least hs)
unfolding least
least_is hs h = whole hs h (found hs (inf false) 0 0)

pub nearest_is : (A : Arith) (table : List Float) (p : Spherical) → NearestIs A table p
unfolding nearest_origin haversines
nearest_is A table p = let l = least_is (haversines A table p) (omega arith) in record { origin = l.place; nearest = l }

-- ---- only one place is so

two : (hs : List Float) (q r : ℕ) → IsLeast hs q → IsLeast hs r → q < r → ⊥
two hs q r l m h =
    let x = get_or hs q nan in
    let y = get_or hs r nan in
    let b : T (lt y (inf false)) = ever (lt y (inf false)) (λ e. omega (arith, (m.number e).0)) in
    let a : T (lt x (inf false)) = ever (lt x (inf false)) (λ e. clash ((l.number e).1 r m.place) b) in
    clash (m.lowest q h) (eq_of_not_lt x y a b (rw (m.least q l.place) tt) (rw (l.least r m.place) tt))

pub least_only : (hs : List Float) (q r : ℕ) → IsLeast hs q → IsLeast hs r → q ≡ r
least_only hs q r l m = omega (arith, two hs q r l m, two hs r q m l)
