-- Bounds on sizes: `Within x B` goes through negation, rounding, products, sums, differences, quotients and remainders. The bound of a result is the
-- same operation on the bounds, rounded as the result is, so for constants it is found by computation. And every finite value of binary64 is within
-- the largest one. Assumes nothing.
use mathlib.Core.Path.{◌≡◌, refl, sym, ap, ◌∙◌}
use Prim.Native.Nat.{ℕ, zero, suc, ◌+◌, ◌-◌, ◌*◌, ◌%◌, ◌^◌, ◌≤◌, ◌<◌}
use native.Mathlib.Nat.{le_refl, le_trans, le_of_eq, le_of_lt, le_antisymm, lt_of_lt_of_le, lt_irrefl, not-le_of_lt, mul_assoc, mul-le-mul, mul-le-mul_right, mul-lt-mul_of_pos_right, lt_of_mul-lt-mul_right, eq_of_mul-eq-mul_right, mul-mul-mul_comm, mul-pos, mod-lt, zero-lt-suc}
use native.Mathlib.Decide.{dec_le}
use native.Mathlib.Omega.{arith}
use mathlib.Core.Bool.{Bool, true, false, not, ◌&&◌, ◌||◌, beq, cond, true≢false}
use lib.IntN.{ℤ, pos}
use lib.Dec.{T, T_not, ltb, eqb, ltb→lt, lt→ltb, nltb→le, eqb→eq, eqb-suc-zero, lit<}
use lib.Pow.{pow-add, pow_pos, pow_mono, shl_lt}
use lib.Ieee.{Float, nan, inf, fin, Format, binary64, prec, low, up, down, unlike, odd, units, round, neg, sum, add, sub, mul, div, rem, lt, eq, le, fits}
use lib.Ieee.Exact.{HasValue}
use lib.Ieee.Fits.{and_i, eq→eqb, two, two-le_pos, round_is, up_pos, down_pos}
use lib.Ieee.Order.{drop, kept, transfer, round_mono}
use lib.Ieee.Positive.{num, den, first_pos, through}
use lib.Ieee.Scale.{finite, overflow}
use Rattle.arithmetic.proofs.Remainder.{rem_exact}
use Rattle.arithmetic.proofs.Rounding.{neg_round}
use Rattle.arithmetic.proofs.Units.{rise, Units, fitting, count, count_lt}

-- x is finite, B is finite and not negative, and the size of x, m * 2 ^ e, is at most B
pub data Within : Float → Float → Type 0 where
  within : {s : Bool} {m n : ℕ} {e d : ℤ} → m * up e * down d ≤ n * up d * down e → Within (fin s m e) (fin false n d)

pub sizes : {x B : Float} → Within x B → num x * den B ≤ num B * den x
sizes (within h) = h

pub within_finite : {x B : Float} → Within x B → T (finite x)
within_finite (within h) = tt

-- the sign bit is clear
abbrev pub clear : Float → Bool
clear nan = false
clear (inf s) = not s
clear (fin s m e) = not s

-- a constant that is not negative, by itself: both tests compute
pub own : (c : Float) → T (clear c) → T (finite c) → Within c c
own nan p f = absurd f
own (inf s) p f = absurd f
own (fin true m e) p f = absurd p
own (fin false m e) p f = within (le_refl (m * up e * down e))

pub wider : {x B C : Float} → Within x B → Within B C → Within x C
wider (within {m = m} {n = n} {e = e} {d = d} h) (within {n = k} {d = g} l) =
    within (through (m * up e) (n * up d) (k * up g) (down e) (down d) (down g) (down_pos d) h l)

-- by any fractions ±a / c and b / d that the two equal
pub of_values : (x y : Float) (s : Bool) (a c b d : ℕ) → 0 < c → 0 < d → HasValue x s a c → HasValue y false b d → a * d ≤ b * c → Within x y
of_values nan y s a c b d C D v w h = absurd v
of_values (inf t) y s a c b d C D v w h = absurd v
of_values (fin t m e) nan s a c b d C D v w h = absurd w
of_values (fin t m e) (inf u) s a c b d C D v w h = absurd w
of_values (fin t m e) (fin true n g) s a c b d C D v w h = absurd (true≢false w.0)
of_values (fin t m e) (fin false n g) s a c b d C D v w h = within (transfer (m * up e) (n * up g) (down e) (down g) a b c d C D v.1 w.1 h)

-- ---- from comparisons and to them

or_le : (p q : Bool) {a b : ℕ} → (T p → a < b) → (T q → a ≡ b) → T (p || (q && true)) → a ≤ b
or_le true q f g t = le_of_lt (f tt)
or_le false true f g t = le_of_eq (g tt)
or_le false false f g t = absurd t

pub le_within : (x y : Float) → T (clear x) → T (clear y) → T (finite y) → T (le x y) → Within x y
unfolding le
le_within nan y c d f l = absurd c
le_within (inf true) y c d f l = absurd c
le_within (inf false) nan c d f l = absurd d
le_within (inf false) (inf t) c d f l = absurd f
le_within (inf false) (fin t n g) c d f l = absurd l
le_within (fin true m e) y c d f l = absurd c
le_within (fin false m e) nan c d f l = absurd d
le_within (fin false m e) (inf t) c d f l = absurd f
le_within (fin false m e) (fin true n g) c d f l = absurd d
le_within (fin false m e) (fin false n g) c d f l =
    let a = m * up e * down g in
    let b = n * up g * down e in
    within (or_le (ltb a b) (eqb a b) (ltb→lt a b) (eqb→eq a b) l)

-- from -B to B, ends included
pub between_within : (x : Float) (n : ℕ) (d : ℤ) → T (le (fin true n d) x) → T (le x (fin false n d)) → Within x (fin false n d)
unfolding le
between_within nan n d l h = absurd l
between_within (inf true) n d l h = absurd l
between_within (inf false) n d l h = absurd h
between_within (fin false m e) n d l h = le_within (fin false m e) (fin false n d) tt tt tt h
between_within (fin true m e) n d l h =
    let a = m * up e * down d in
    let b = n * up d * down e in
    within (or_le (ltb a b) (eqb b a) (ltb→lt a b) (λ t. sym (eqb→eq b a t)) l)

or_else : (p q : Bool) → (T (not p) → T q) → T (p || q)
or_else true q f = tt
or_else false q f = f tt

pub lt_le : (x y : Float) → T (lt x y) → T (le x y)
unfolding le
lt_le x y t = or_else (lt x y) (eq x y) (λ n. absurd (T_not (lt x y) n t))

pub within_le : {x B : Float} → Within x B → T (le (neg B) x) × T (le x B)
unfolding le neg
within_le (within {s} {m} {n} {e} {d} h) = at s
  where
    a : ℕ
    a = m * up e * down d

    b : ℕ
    b = n * up d * down e

    alike : (p : Bool) → (a ≡ b → T p) → T (ltb a b || (p && true))
    alike p f = or_else (ltb a b) (p && true) (λ t. and_i p true (f (le_antisymm h (nltb→le a b t))) tt)

    apart : (a b : ℕ) → T (ltb 0 (a + b) || (eqb a b && eqb a 0))
    apart a b = or_else (ltb 0 (a + b)) (eqb a b && eqb a 0)
        (λ t. let z = nltb→le 0 (a + b) t in and_i (eqb a b) (eqb a 0) (eq→eqb {a = a} {b = b} (omega arith)) (eq→eqb {a = a} {b = 0} (omega arith)))

    at : (t : Bool) → T (le (fin true n d) (fin t m e)) × T (le (fin t m e) (fin false n d))
    at true = (alike (eqb b a) (λ z. eq→eqb (sym z)), apart a b)
    at false = (apart b a, alike (eqb a b) (λ z. eq→eqb z))

-- below a larger bound, on both sides
pub within_lt : {x B : Float} (C : Float) → Within x B → T (lt B C) → T (lt (neg C) x) × T (lt x C)
unfolding lt neg
within_lt nan (within h) l = absurd l
within_lt (inf true) (within h) l = absurd l
within_lt (inf false) (within h) l = (tt, tt)
within_lt (fin true n d) (within h) l = absurd l
within_lt (fin false k g) (within {s} {m} {n} {e} {d} h) l = at s
  where
    a : ℕ
    a = m * up e * down g

    b : ℕ
    b = k * up g * down e

    chain : (m n k e d g : ℕ) → m * d ≤ n * e → n * g * e < k * d * e → m * g * d < k * e * d
    chain m n k e d g h l = omega (arith, mul-le-mul_right g h)

    less : a < b
    less =
        let D = down d in
        lt_of_mul-lt-mul_right D (chain (m * up e) (n * up d) (k * up g) (down e) D (down g) h
        (mul-lt-mul_of_pos_right (ltb→lt (n * up d * down g) (k * up g * D) l) (down_pos e)))

    at : (t : Bool) → T (lt (fin true k g) (fin t m e)) × T (lt (fin t m e) (fin false k g))
    at true = (lt→ltb a b less, lt→ltb 0 (a + b) (omega (arith, less)))
    at false = (lt→ltb 0 (b + a) (omega (arith, less)), lt→ltb a b less)

-- ---- rounding

pub neg_within : {x B : Float} → Within x B → Within (neg x) B
unfolding neg
neg_within (within h) = within h

units_clear : (f : Format) (q k : ℕ) → T (clear (units f false q k))
unfolding units odd
units_clear f q k = go (ltb (q * 2 ^ k) (overflow f)) q
  where
    go : (b : Bool) (n : ℕ) → T (clear (cond b (odd (suc (prec f)) false n k (low f)) (inf false)))
    go true zero = tt
    go true (suc n) = tt
    go false n = tt

pub round_clear : (f : Format) (a c : ℕ) → T (clear (round f false a c))
round_clear f a c = rw round_is (units_clear f (kept (prec f) (a * 2 ^ low f) c) (drop (prec f) (a * 2 ^ low f) c))

-- a fraction that is no larger than b / d, with either sign
pub round_within : (f : Format) (s : Bool) (a c b d : ℕ) → 0 < c → 0 < d → a * d ≤ b * c → T (finite (round f false b d))
    → Within (round f s a c) (round f false b d)
round_within f s a c b d C D h F = at s
  where
    plain : Within (round f false a c) (round f false b d)
    plain = le_within (round f false a c) (round f false b d) (round_clear f a c) (round_clear f b d) F (round_mono f a c b d C D h)

    at : (s : Bool) → Within (round f s a c) (round f false b d)
    at false = plain
    at true = rw (← neg_round f false a c) (neg_within plain)

sum_within : (f : Format) (s t : Bool) (a b c n d : ℕ) → 0 < c → 0 < d → (a + b) * d ≤ n * c → T (finite (round f false n d))
    → Within (sum f s a t b c) (round f false n d)
unfolding sum
sum_within f s t a b c n d C D h F = go (beq s t) (ltb a b) (s && ltb b a)
  where
    go : (p q u : Bool) → Within (cond p (round f s (a + b) c) (cond q (round f t (b - a) c) (round f u (a - b) c))) (round f false n d)
    go true q u = round_within f s (a + b) c n d C D h F
    go false true u = round_within f t (b - a) c n d C D (le_trans (mul-le-mul_right d (omega arith)) h) F
    go false false u = round_within f u (a - b) c n d C D (le_trans (mul-le-mul_right d (omega arith)) h) F

-- ---- the operations, where the one on the bounds does not overflow

module _ (f : Format) where
  pub mul_within : {x y B C : Float} → Within x B → Within y C → T (finite (mul f B C)) → Within (mul f x y) (mul f B C)
  unfolding mul
  mul_within (within {s} {m} {n} {e} {d} h) (within {s = t} {m = k} {n = l} {e = g} {d = i} j) F =
      round_within f (unlike s t) (m * up e * (k * up g)) (down e * down g) (n * up d * (l * up i)) (down d * down i)
      (mul-pos (down_pos e) (down_pos g)) (mul-pos (down_pos d) (down_pos i))
      (le_trans (le_of_eq (mul-mul-mul_comm (m * up e) (k * up g) (down d) (down i)))
      (le_trans (mul-le-mul h j) (le_of_eq (mul-mul-mul_comm (n * up d) (down e) (l * up i) (down g))))) F

  pub add_within : {x y B C : Float} → Within x B → Within y C → T (finite (add f B C)) → Within (add f x y) (add f B C)
  unfolding add sum
  add_within (within {s} {m} {n} {e} {d} h) (within {s = t} {m = k} {n = l} {e = g} {d = i} j) F =
      sum_within f s t (m * up e * down g) (k * up g * down e) (down e * down g) (n * up d * down i + l * up i * down d) (down d * down i)
      (mul-pos (down_pos e) (down_pos g)) (mul-pos (down_pos d) (down_pos i))
      (sums (m * up e) (n * up d) (down e) (down d) (k * up g) (l * up i) (down g) (down i) h j) F
    where
      sums : (m n e d k l g i : ℕ) → m * d ≤ n * e → k * i ≤ l * g → (m * g + k * e) * (d * i) ≤ (n * i + l * d) * (e * g)
      sums m n e d k l g i h j = omega (arith, mul-le-mul_right (g * i) h, mul-le-mul_right (e * d) j)

  pub sub_within : {x y B C : Float} → Within x B → Within y C → T (finite (add f B C)) → Within (sub f x y) (add f B C)
  unfolding sub
  sub_within h j F = add_within h (neg_within j) F

  div_is : (s : Bool) (m : ℕ) (e : ℤ) (t : Bool) (n : ℕ) (d : ℤ) → 0 < n
      → div f (fin s m e) (fin t n d) ≡ round f (unlike s t) (m * up e * down d) (n * up d * down e)
  unfolding div
  div_is s m e t zero d N = absurd (lt_irrefl 0 N)
  div_is s m e t (suc n) d N = rw eqb-suc-zero

  -- by a divisor y that is C at least
  pub div_within : {x y B C : Float} → Within x B → Within C y → T (clear C) → T (finite (div f B C)) → Within (div f x y) (div f B C)
  unfolding div
  div_within h (within {s = true} j) c F = absurd c
  div_within (within {n = n} h) (within {s = false} {m = zero} j) c F = absurd (at (eqb n 0) F)
    where
      at : (b : Bool) → T (finite (cond b nan (inf false))) → ⊥
      at true t = t
      at false t = t
  div_within (within {s} {m} {n} {e} {d} h) (within {s = false} {m = suc k} {n = l} {e = g} {d = i} j) c F =
      let K : 0 < suc k * up g = mul-pos (zero-lt-suc k) (up_pos g) in
      let L : 0 < l * up i = first_pos (l * up i) (down g) (lt_of_lt_of_le (mul-pos K (down_pos i)) j) in
      let by-y = div_is s m e false l i (first_pos l (up i) L) in
      let by-C = div_is false n d false (suc k) g (zero-lt-suc k) in
      rw (by-y, by-C)
      (round_within f (unlike s false) (m * up e * down i) (l * up i * down e) (n * up d * down g) (suc k * up g * down d) (mul-pos L (down_pos e))
      (mul-pos K (down_pos d))
      (quotients (m * up e) (n * up d) (down e) (down d) (suc k * up g) (l * up i) (down g) (down i) h j) (rw by-C at F))
    where
      quotients : (m n e d k l g i : ℕ) → m * d ≤ n * e → k * i ≤ l * g → m * i * (k * d) ≤ n * g * (l * e)
      quotients m n e d k l g i h j = omega (arith, mul-le-mul h j)

-- x + B is not negative for an x within B
pub sum_clear : (f : Format) {x B : Float} → Within x B → T (clear (add f x B))
unfolding add sum
sum_clear f (within {s} {m} {n} {e} {d} h) = at s
  where
    a : ℕ
    a = m * up e * down d

    b : ℕ
    b = n * up d * down e

    c : ℕ
    c = down e * down d

    go : (p q : Bool) → (T q → b < a) → T (clear (cond p (round f false (b - a) c) (round f q (a - b) c)))
    go true q l = round_clear f (b - a) c
    go false true l = absurd (not-le_of_lt (l tt) h)
    go false false l = round_clear f (a - b) c

    at : (t : Bool) → T (clear (sum f t a false b c))
    at false = round_clear f (a + b) c
    at true = go (ltb a b) (ltb b a) (ltb→lt b a)

-- x % y is within y
pub rem_within : (f : Format) (x : Float) (n : ℕ) (d : ℤ) → T (fits f x) → T (finite x) → T (fits f (fin false n d)) → 0 < n
    → Within (rem f x (fin false n d)) (fin false n d)
rem_within f nan n d h t k N = absurd t
rem_within f (inf s) n d h t k N = absurd t
rem_within f (fin s m e) n d h t k N =
    let a = m * 2 ^ rise f e in
    let b = n * 2 ^ rise f d in
    let l = pow_pos (low f) in
    of_values (rem f (fin s m e) (fin false n d)) (fin false n d) s (a % b) (2 ^ low f) b (2 ^ low f) l l
    (rem_exact f s m e false n d h k N) (count f false n d k) (mul-le-mul_right (2 ^ low f) (le_of_lt (mod-lt a (mul-pos N (pow_pos (rise f d))))))

-- ---- the next smaller value

-- of a number below w * 2 ^ j that has p digits at most, where w has p
next_digits : (p m i w j : ℕ) → 0 < p → m < 2 ^ p → 2 ^ (p - 1) < w → m * 2 ^ i < w * 2 ^ j → m * 2 ^ i ≤ (w - 1) * 2 ^ j
next_digits p m i w j P small wide h = go (dec_le j i)
  where
    down_one : (n : ℕ) → n < w → n ≤ w - 1
    down_one n l = omega arith

    go : Dec (j ≤ i) → m * 2 ^ i ≤ (w - 1) * 2 ^ j
    go (yes g) =
        let e : i ≡ i - j + j = omega arith in
        let q = m * 2 ^ (i - j) in
        let r : m * 2 ^ i ≡ q * 2 ^ j = ap (λ n. m * 2 ^ n) e ∙ ap (λ n. m * n) (pow-add 2 (i - j) j) ∙ sym (mul_assoc m (2 ^ (i - j)) (2 ^ j)) in
        rw r (mul-le-mul_right (2 ^ j) (down_one q (lt_of_mul-lt-mul_right (2 ^ j) (rw r at h))))
    go (no g) =
        let l : p + i ≤ p - 1 + j = omega arith in
        le_of_lt (lt_of_lt_of_le (shl_lt p i small) (le_trans (pow_mono l)
        (le_trans (le_of_eq (pow-add 2 (p - 1) j)) (mul-le-mul_right (2 ^ j) (down_one (2 ^ (p - 1)) wide)))))

-- a value of the format below w * 2 ^ j units, where w has all the digits that the format keeps, is below it by 2 ^ j units at least
pub next_below : (f : Format) (x : Float) (s : Bool) (a w j : ℕ) → T (fits f x) → Units f x s a → 2 ^ (prec f - 1) < w → a < w * 2 ^ j → a ≤ (w - 1) * 2 ^ j
next_below f nan s a w j h v wide l = absurd v
next_below f (inf t) s a w j h v wide l = absurd v
next_below f (fin t m e) s a w j h v wide l =
    let c : m * 2 ^ rise f e ≡ a = eq_of_mul-eq-mul_right (down e) (down_pos e) (m * 2 ^ rise f e) a (sym (count f t m e h).1 ∙ v.1) in
    rw (← c) (next_digits (prec f) m (rise f e) w j (two-le_pos (prec f) (two f)) (fitting f t m e h).small wide (rw c l))

-- the largest finite value of binary64
abbrev pub largest : Float
largest = fin false (2 ^ 53 - 1) (pos 971)

pub within_largest : (x : Float) → T (fits binary64 x) → T (finite x) → Within x largest
within_largest nan h t = absurd t
within_largest (inf s) h t = absurd t
within_largest (fin s m e) h t =
    let a = m * 2 ^ rise binary64 e in
    let b = (2 ^ 53 - 1) * 2 ^ 2045 in
    let v = count binary64 s m e h in
    of_values (fin s m e) largest s a (2 ^ 1074) b (2 ^ 1074) (pow_pos 1074) (pow_pos 1074) v (refl, refl)
    (mul-le-mul_right (2 ^ 1074) (next_below binary64 (fin s m e) s a (2 ^ 53) 2045 h v (lit< tt) (count_lt binary64 s m e h)))
