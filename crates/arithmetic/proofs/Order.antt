-- `lt` and `eq` on all floats, NaN and the infinities too: `lt` is irreflexive and transitive, equal ones are less than the same ones, and of two
-- below +infinity one is less or they are equal. Assumes nothing.
use mathlib.Core.Path.{◌≡◌, refl}
use Prim.Native.Nat.{ℕ, ◌+◌, ◌*◌, ◌≤◌, ◌<◌}
use native.Mathlib.Nat.{mul-pos, mul_comm, mul_assoc, mul_left_comm}
use native.Mathlib.Omega.{arith}
use mathlib.Core.Bool.{Bool, true, false, not, ◌&&◌, ◌||◌, beq}
use lib.IntN.{ℤ}
use lib.Dec.{T, eqb, ltb→lt, lt→ltb, nltb→le, eqb→eq}
use lib.Ieee.{Float, nan, inf, fin, up, down, below, level, lt, eq}
use lib.Ieee.Exact.{HasValue}
use lib.Ieee.Fits.{and_l, and_r, and_i, down_pos, eq→eqb}
use Rattle.arithmetic.proofs.Compared.{lt_values, eq_values}

-- ---- the tests ±a < ±b and ±a = ±b

below_irrefl : (s : Bool) (a : ℕ) → T (below s a s a) → ⊥
below_irrefl true a h = omega (arith, ltb→lt)
below_irrefl false a h = omega (arith, ltb→lt)

below_trans : (s t u : Bool) (a b c : ℕ) → T (below s a t b) → T (below t b u c) → T (below s a u c)
below_trans false false false a b c h k = omega (arith, ltb→lt, lt→ltb)
below_trans false false true a b c h k = absurd k
below_trans false true u a b c h k = absurd h
below_trans true false false a b c h k = omega (arith, ltb→lt, lt→ltb)
below_trans true false true a b c h k = absurd k
below_trans true true false a b c h k = omega (arith, ltb→lt, lt→ltb)
below_trans true true true a b c h k = omega (arith, ltb→lt, lt→ltb)

level_below : (s t u : Bool) (a b c : ℕ) → T (level s a t b) → T (below t b u c) → T (below s a u c)
level_below s t u a b c h k = go s t u (eqb→eq a b (and_l (eqb a b) (beq s t || eqb a 0) h)) (and_r (eqb a b) (beq s t || eqb a 0) h) k
  where
    go : (s t u : Bool) → a ≡ b → T (beq s t || eqb a 0) → T (below t b u c) → T (below s a u c)
    go false false false e o k = omega (arith, ltb→lt, lt→ltb)
    go false false true e o k = absurd k
    go false true false e o k = omega (arith, eqb→eq, ltb→lt, lt→ltb)
    go false true true e o k = absurd (omega (arith, eqb→eq a 0 o, ltb→lt))
    go true false false e o k = omega (arith, ltb→lt, lt→ltb)
    go true false true e o k = absurd k
    go true true false e o k = omega (arith, ltb→lt, lt→ltb)
    go true true true e o k = omega (arith, ltb→lt, lt→ltb)

zeros : (a b : ℕ) → a + b ≤ 0 → T (eqb a b && eqb a 0)
zeros a b h = let e : a ≡ b = omega arith in let o : a ≡ 0 = omega arith in and_i (eqb a b) (eqb a 0) (eq→eqb e) (eq→eqb o)

apart : (s t : Bool) (a b : ℕ) → T (not (below s a t b)) → T (not (below t b s a)) → T (level s a t b)
apart false false a b h k = let e : a ≡ b = omega (arith, nltb→le) in and_i (eqb a b) true (eq→eqb e) tt
apart false true a b h k = zeros a b (omega (arith, nltb→le))
apart true false a b h k = zeros a b (omega (arith, nltb→le))
apart true true a b h k = let e : a ≡ b = omega (arith, nltb→le) in and_i (eqb a b) true (eq→eqb e) tt

-- ---- three finite floats over one denominator

over : (s : Bool) (m : ℕ) (e : ℤ) (q c : ℕ) → down e * q ≡ c → HasValue (fin s m e) s (m * up e * q) c
over s m e q c h = (refl, rw (← h) (simp (mul_assoc, mul_comm, mul_left_comm)))

module _ (s t u : Bool) (m n k : ℕ) (e d g : ℤ) where
  abbrev c : ℕ
  c = down e * (down d * down g)

  abbrev x : ℕ
  x = m * up e * (down d * down g)

  abbrev y : ℕ
  y = n * up d * (down e * down g)

  abbrev z : ℕ
  z = k * up g * (down e * down d)

  pos_c : 0 < c
  pos_c = mul-pos (down_pos e) (mul-pos (down_pos d) (down_pos g))

  x_over : HasValue (fin s m e) s x c
  x_over = over s m e (down d * down g) c refl

  y_over : HasValue (fin t n d) t y c
  y_over = over t n d (down e * down g) c (mul_left_comm (down d) (down e) (down g))

  z_over : HasValue (fin u k g) u z c
  z_over = over u k g (down e * down d) c (simp (mul_comm, mul_left_comm))

  -- p, a test on x and y, is q over the denominator: where q and y < z give x < z, so does p
  through : (p q : Bool) → p ≡ q → (T q → T (below t (y * c) u (z * c)) → T (below s (x * c) u (z * c)))
      → T p → T (lt (fin t n d) (fin u k g)) → T (lt (fin s m e) (fin u k g))
  through p q o f h i =
      rw (lt_values s u x c z c pos_c pos_c (fin s m e) (fin u k g) x_over z_over)
      (f (rw o at h) (rw (lt_values t u y c z c pos_c pos_c (fin t n d) (fin u k g) y_over z_over) at i))

  lt_lt : T (lt (fin s m e) (fin t n d)) → T (lt (fin t n d) (fin u k g)) → T (lt (fin s m e) (fin u k g))
  lt_lt = through _ _ (lt_values s t x c y c pos_c pos_c (fin s m e) (fin t n d) x_over y_over) (below_trans s t u (x * c) (y * c) (z * c))

  eq_lt : T (eq (fin s m e) (fin t n d)) → T (lt (fin t n d) (fin u k g)) → T (lt (fin s m e) (fin u k g))
  eq_lt = through _ _ (eq_values s t x c y c pos_c pos_c (fin s m e) (fin t n d) x_over y_over) (level_below s t u (x * c) (y * c) (z * c))

-- ---- the laws

pub lt_irrefl : (x : Float) → T (lt x x) → ⊥
unfolding lt
lt_irrefl nan h = h
lt_irrefl (inf true) h = h
lt_irrefl (inf false) h = h
lt_irrefl (fin s m e) h = below_irrefl s (m * up e * down e) h

pub lt_below : (x y : Float) → T (lt x y) → T (lt x (inf false))
unfolding lt
lt_below nan y h = h
lt_below (inf true) y h = tt
lt_below (inf false) nan h = h
lt_below (inf false) (inf t) h = h
lt_below (inf false) (fin t n d) h = h
lt_below (fin s m e) y h = tt

pub lt_trans : (x y z : Float) → T (lt x y) → T (lt y z) → T (lt x z)
unfolding lt
lt_trans nan y z h k = h
lt_trans (inf false) y z h k = absurd (lt_below (inf false) y h)
lt_trans (inf true) nan z h k = absurd h
lt_trans (inf true) (inf true) z h k = k
lt_trans (inf true) (inf false) z h k = absurd (lt_below (inf false) z k)
lt_trans (inf true) (fin t n d) nan h k = k
lt_trans (inf true) (fin t n d) (inf u) h k = k
lt_trans (inf true) (fin t n d) (fin u l g) h k = tt
lt_trans (fin s m e) nan z h k = absurd h
lt_trans (fin s m e) (inf true) z h k = absurd h
lt_trans (fin s m e) (inf false) z h k = absurd (lt_below (inf false) z k)
lt_trans (fin s m e) (fin t n d) nan h k = k
lt_trans (fin s m e) (fin t n d) (inf u) h k = k
lt_trans (fin s m e) (fin t n d) (fin u l g) h k = lt_lt s t u m n l e d g h k

pub eq_lt_trans : (x y z : Float) → T (eq x y) → T (lt y z) → T (lt x z)
unfolding lt eq
eq_lt_trans nan y z h k = absurd h
eq_lt_trans (inf s) nan z h k = absurd h
eq_lt_trans (inf true) (inf true) z h k = k
eq_lt_trans (inf true) (inf false) z h k = absurd h
eq_lt_trans (inf false) (inf true) z h k = absurd h
eq_lt_trans (inf false) (inf false) z h k = k
eq_lt_trans (inf s) (fin t n d) z h k = absurd h
eq_lt_trans (fin s m e) nan z h k = absurd h
eq_lt_trans (fin s m e) (inf t) z h k = absurd h
eq_lt_trans (fin s m e) (fin t n d) nan h k = k
eq_lt_trans (fin s m e) (fin t n d) (inf u) h k = k
eq_lt_trans (fin s m e) (fin t n d) (fin u l g) h k = eq_lt s t u m n l e d g h k

pub eq_of_not_lt : (x y : Float) → T (lt x (inf false)) → T (lt y (inf false)) → T (not (lt x y)) → T (not (lt y x)) → T (eq x y)
unfolding lt eq
eq_of_not_lt nan y h k i j = absurd h
eq_of_not_lt (inf false) y h k i j = absurd h
eq_of_not_lt (inf true) nan h k i j = absurd k
eq_of_not_lt (inf true) (inf true) h k i j = tt
eq_of_not_lt (inf true) (inf false) h k i j = absurd k
eq_of_not_lt (inf true) (fin t n d) h k i j = absurd i
eq_of_not_lt (fin s m e) nan h k i j = absurd k
eq_of_not_lt (fin s m e) (inf true) h k i j = absurd j
eq_of_not_lt (fin s m e) (inf false) h k i j = absurd k
eq_of_not_lt (fin s m e) (fin t n d) h k i j = apart s t (m * up e * down d) (n * up d * down e) i j
