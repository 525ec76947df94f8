-- `sqrt` is IEEE 754's square root. Of a finite x above zero it is the value of the format that is nearest to x's root, no other value is
-- as near, and there is only one such value (`sqrt_is_root`, `root_unique`). It is at least 2 ^ -537, so never subnormal (`sqrt_least`).
-- What it gives elsewhere is said by `sqrt_elsewhere`. Assumes nothing.
use mathlib.Core.Path.{◌≡◌, refl, sym, ap, ◌∙◌, subst}
use mathlib.Core.Logic.{◌⊎◌, inl, inr}
use Prim.Native.Nat.{ℕ, zero, suc, ◌+◌, ◌-◌, ◌*◌, ◌/◌, ◌%◌, ◌^◌, ◌≤◌, ◌<◌, zero-le}
use native.Mathlib.Nat.{add-mul, le_trans, le_of_eq, le_antisymm, le_of_lt, lt_of_lt_of_le, lt_of_le_of_lt, lt_irrefl, lt_of_not-le, not-le_of_lt, eq-or-lt_of_le, mul_comm, mul_assoc, mul_right_comm, mul-le-mul, mul-le-mul_left, mul-le-mul_right, mul-lt-mul_of_pos_right, lt_of_mul-lt-mul_right, le_of_mul-le-mul_right, mul-pos, zero-lt-suc}
use native.Mathlib.Omega.{arith}
use mathlib.Core.Bool.{Bool, true, false}
use lib.IntN.{ℤ}
use lib.Dec.{T, ltb→lt, lt→ltb}
use lib.Pow.{pow-add, pow_pos, pow_mono}
use lib.Ieee.{Float, nan, inf, fin, binary64, up, down, fits, lt}
use lib.Ieee.Exact.{HasValue, odd_sign}
use lib.Ieee.Order.{transfer}
use lib.Ieee.Fits.{down_pos, nan-fits, inf-fits}
use lib.Ieee.Positive.{num, den, den_pos, positive, positive_of_value, own_value, value→cross, first_pos}
use lib.Ieee.Scale.{finite}
use Rattle.arithmetic.specs.Nearest.{sum_squared, four_times, IsRoot}
use Rattle.arithmetic.specs.Sqrt.{nearest_root, sqrt}
use Rattle.arithmetic.proofs.Powers.{apart}
use Rattle.arithmetic.proofs.Compared.{lt_values}
use Rattle.arithmetic.proofs.Units.{unique}
use Rattle.arithmetic.proofs.Count.{Beside, Counted, counted_zero, counted}
use Rattle.arithmetic.proofs.Root.{Near}
use Rattle.arithmetic.proofs.Width.{Wide, wide, wide_top, scaled, root_wide, sqrt_wide, scaled_lo, root_near, root_lo, root_fits}

-- ---- midpoints with q * p, where q is nearest to the root of n, against the root of n * p * p

product : (v p : ℕ) → v * p * (v * p) ≡ v * v * (p * p)
product v p = omega arith

square_le : (s v u p : ℕ) → s ≤ v * p → v * v < u → 0 < p → s * s < u * (p * p)
square_le s v u p h l z = lt_of_le_of_lt (le_trans (mul-le-mul h h) (le_of_eq (product v p))) (mul-lt-mul_of_pos_right l (mul-pos z z))

square_lt : (s v u p : ℕ) → s < v * p → v * v ≤ u → s * s < u * (p * p)
square_lt s v u p h l =
    lt_of_le_of_lt (mul-le-mul_left s (le_of_lt h))
    (lt_of_lt_of_le (mul-lt-mul_of_pos_right h (lt_of_le_of_lt zero-le h)) (le_trans (le_of_eq (product v p)) (mul-le-mul_right (p * p) l)))

square_gt : (s v u p : ℕ) → v * p ≤ s → u < v * v → 0 < p → u * (p * p) < s * s
square_gt s v u p h l z = lt_of_lt_of_le (mul-lt-mul_of_pos_right l (mul-pos z z)) (le_trans (le_of_eq (sym (product v p))) (mul-le-mul h h))

module _ (n q p : ℕ) (large : 2 ^ 104 ≤ n) (wide-q : 2 ^ 52 ≤ q) (near : Near n q) (P : 0 < p) where
  -- w * p + q * p is at most (2 * q - 1) * p
  one_less : (c w : ℕ) → c ≤ w * p → w < q → (c + q * p) * (c + q * p) < 4 * n * (p * p)
  one_less c w h l =
      square_le (c + q * p) (2 * q - 1) (4 * n) p
      (le_trans (keep (w * p) (q * p) h) (le_trans (le_of_eq (sym (add-mul w q p))) (mul-le-mul_right p (omega arith)))) near.0 P
    where
      keep : (a b : ℕ) → c ≤ a → c + b ≤ a + b
      keep a b g = omega arith

  below : (c : ℕ) → Beside p c → c < q * p → (c + q * p) * (c + q * p) < 4 * n * (p * p)
  below c (inl (w, e)) h = one_less c w (le_of_eq e) (lt_of_mul-lt-mul_right p (subst (λ (x : ℕ). x < q * p) e h))
  below c (inr l) h = go (eq-or-lt_of_le wide-q)
    where
      go : (2 ^ 52 ≡ q) ⊎ (2 ^ 52 < q) → (c + q * p) * (c + q * p) < 4 * n * (p * p)
      go (inl e) = square_lt (c + q * p) (2 ^ 53) (4 * n) p (subst (λ (x : ℕ). c + x * p < 2 ^ 53 * p) e (omega arith)) (omega arith)
      go (inr g) = one_less c (2 ^ 52) (le_of_lt l) g

  above : (c : ℕ) → Beside p c → q * p < c → 4 * n * (p * p) < (c + q * p) * (c + q * p)
  above c (inl (w, e)) h =
      let m : q < w = lt_of_mul-lt-mul_right p (subst (λ (x : ℕ). q * p < x) e h) in
      square_gt (c + q * p) (2 * q + 1) (4 * n) p
      (le_trans (mul-le-mul_right p (omega arith)) (le_of_eq (add-mul w q p ∙ ap (λ (x : ℕ). x + q * p) (sym e)))) near.1 P
  above c (inr l) h = absurd (lt_irrefl c (lt_of_lt_of_le l (le_trans (mul-le-mul_right p wide-q) (le_of_lt h))))

-- ---- from counts to fractions: s is S in units of 1 / d, and N is x in units of 1 / d ^ 2

module _ (S E nx dx s N d : ℕ) (D : 0 < d) (X : 0 < dx) (Z : 0 < E) (es : S * d ≡ s * E) (ex : nx * (d * d) ≡ N * dx) where
  left : S * S * dx * (d * d) ≡ s * s * (E * E * dx)
  left = regroup S d dx ∙ ap (λ (z : ℕ). z * z * dx) es ∙ again s E dx
    where
      regroup : (s d x : ℕ) → s * s * x * (d * d) ≡ s * d * (s * d) * x
      regroup s d x = omega arith

      again : (s e x : ℕ) → s * e * (s * e) * x ≡ s * s * (e * e * x)
      again s e x = omega arith

  right : 4 * nx * (E * E) * (d * d) ≡ 4 * N * (E * E * dx)
  right = regroup nx (E * E) (d * d) ∙ ap (λ (z : ℕ). 4 * z * (E * E)) ex ∙ again N dx (E * E)
    where
      regroup : (x e d : ℕ) → 4 * x * e * d ≡ 4 * (x * d) * e
      regroup x e d = omega arith

      again : (n x e : ℕ) → 4 * (n * x) * e ≡ 4 * n * (e * x)
      again n x e = omega arith

  all_pos : 0 < E * E * dx
  all_pos = mul-pos (mul-pos Z Z) X

  fraction_below : s * s < 4 * N → S * S * dx < 4 * nx * (E * E)
  fraction_below h = lt_of_mul-lt-mul_right (d * d) (rw (left, right) (mul-lt-mul_of_pos_right h all_pos))

  fraction_above : 4 * N < s * s → 4 * nx * (E * E) < S * S * dx
  fraction_above h = lt_of_mul-lt-mul_right (d * d) (rw (left, right) (mul-lt-mul_of_pos_right h all_pos))

sums : (ny dy nr dr a b d : ℕ) → ny * d ≡ a * dy → nr * d ≡ b * dr → (ny * dr + nr * dy) * d ≡ (a + b) * (dy * dr)
sums ny dy nr dr a b d ey er =
    let f : ny * d * dr ≡ a * dy * dr = ap (λ (z : ℕ). z * dr) ey in
    let g : nr * d * dy ≡ b * dr * dy = ap (λ (z : ℕ). z * dy) er in
    omega arith

cross_lt : (ny dy nr dr a b d : ℕ) → ny * d ≡ a * dy → nr * d ≡ b * dr → 0 < d → ny * dr < nr * dy → a < b
cross_lt ny dy nr dr a b d ey er D h = lt_of_not-le (λ g. not-le_of_lt h (transfer nr ny dr dy b a d d D D er ey (mul-le-mul_right d g)))

-- ---- the root

module _ (x : Float) (a g : ℕ) (w : Wide x a g) (most : g ≤ 2097) where
  abbrev n : ℕ
  n = scaled a g

  abbrev q : ℕ
  q = nearest_root 53 n

  abbrev k : ℕ
  k = g / 2 + 485

  abbrev r : Float
  r = root_wide a g

  value : HasValue r false (q * 2 ^ k) (2 ^ 1074)
  value = odd_sign 54 false q k 1074

  cross_r : num r * 2 ^ 1074 ≡ q * 2 ^ k * den r
  cross_r = value→cross r (q * 2 ^ k) (2 ^ 1074) value

  -- x is n * (2 ^ k) ^ 2 in units of (2 ^ -1074) ^ 2
  cross_x : num x * (2 ^ 1074 * 2 ^ 1074) ≡ n * (2 ^ k * 2 ^ k) * den x
  cross_x =
      sym (mul_assoc (num x) (2 ^ 1126) (2 ^ 1022))
      ∙ ap (λ (z : ℕ). z * 2 ^ 1022) (value→cross x (a * 2 ^ g) (2 ^ 1126) w.value)
      ∙ mul_right_comm (a * 2 ^ g) (den x) (2 ^ 1022)
      ∙ ap (λ (z : ℕ). z * den x) powers
    where
      powers : a * 2 ^ g * 2 ^ 1022 ≡ n * (2 ^ k * 2 ^ k)
      powers =
          sym (apart a (g + 1022) g 1022 refl)
          ∙ apart a (g + 1022) (g % 2 + 52) (k + k) (omega arith)
          ∙ ap (λ (z : ℕ). z * 2 ^ (k + k)) (apart a (g % 2 + 52) (g % 2) 52 refl)
          ∙ ap (λ (z : ℕ). n * z) (pow-add 2 k k)

  large : 2 ^ 537 ≤ q * 2 ^ k
  large = mul-le-mul (root_lo a g w.lo w.hi) (pow_mono {i = 485} {j = k} (omega arith))

  above_zero : T (positive r)
  above_zero = positive_of_value r (q * 2 ^ k) (2 ^ 1074) value (lt_of_lt_of_le (pow_pos 537) large)

  least : den r ≤ num r * 2 ^ 537
  least =
      le_of_mul-le-mul_right
      (le_trans (le_of_eq (mul_comm (den r) (2 ^ 537)))
      (le_trans (mul-le-mul_right (den r) large) (le_of_eq (sym cross_r ∙ sym (mul_assoc (num r) (2 ^ 537) (2 ^ 537))))))
      (pow_pos 537)

  own : HasValue r false (num r) (den r)
  own = own_value r above_zero

  -- a value of size m * 2 ^ e, and its sum with r
  module _ (m : ℕ) (e : ℤ) (c : Counted m e) where
    abbrev sum : ℕ
    sum = m * up e * den r + num r * down e

    abbrev both : ℕ
    both = down e * den r

    sum_below : m * up e * den r < num r * down e → sum * sum * den x < 4 * num x * (both * both)
    sum_below h =
        let b = c.count in
        fraction_below sum both (num x) (den x) (b + q * 2 ^ k) (n * (2 ^ k * 2 ^ k)) (2 ^ 1074) (pow_pos 1074) (den_pos x) (mul-pos (down_pos e) (den_pos r))
        (sums (m * up e) (down e) (num r) (den r) b (q * 2 ^ k) (2 ^ 1074) c.value cross_r) cross_x
        (lt_of_lt_of_le
        (below n q (2 ^ k) (scaled_lo a g w.lo w.hi) (root_lo a g w.lo w.hi) (root_near a g w.lo w.hi) (pow_pos k) b (c.beside k)
        (cross_lt (m * up e) (down e) (num r) (den r) b (q * 2 ^ k) (2 ^ 1074) c.value cross_r (pow_pos 1074) h))
        (le_of_eq (mul_assoc 4 n (2 ^ k * 2 ^ k))))

    sum_above : num r * down e < m * up e * den r → 4 * num x * (both * both) < sum * sum * den x
    sum_above h =
        let b = c.count in
        fraction_above sum both (num x) (den x) (b + q * 2 ^ k) (n * (2 ^ k * 2 ^ k)) (2 ^ 1074) (pow_pos 1074) (den_pos x) (mul-pos (down_pos e) (den_pos r))
        (sums (m * up e) (down e) (num r) (den r) b (q * 2 ^ k) (2 ^ 1074) c.value cross_r) cross_x
        (lt_of_le_of_lt (le_of_eq (sym (mul_assoc 4 n (2 ^ k * 2 ^ k))))
        (above n q (2 ^ k) (scaled_lo a g w.lo w.hi) (root_lo a g w.lo w.hi) (root_near a g w.lo w.hi) (pow_pos k) b (c.beside k)
        (cross_lt (num r) (den r) (m * up e) (down e) (q * 2 ^ k) b (2 ^ 1074) cross_r c.value (pow_pos 1074) h)))

  from_below : (y : Float) → T (fits binary64 y) → T (finite y) → T (lt y r) → sum_squared x y r < four_times x y r
  from_below nan f h l = absurd h
  from_below (inf s) f h l = absurd h
  from_below (fin false m e) f h l =
      sum_below m e (counted false m e f)
      (ltb→lt (m * up e * den r) (num r * down e)
      (rw (lt_values false false (m * up e) (down e) (num r) (den r) (down_pos e) (den_pos r) (fin false m e) r (refl, refl) own) at l))
  from_below (fin true m e) f h l = lt_of_le_of_lt (mul-le-mul_right (den x) (mul-le-mul le le)) (sum_below 0 e (counted_zero e) some)
    where
      at_most : (u v t s : ℕ) → v - u ≤ 0 * t * s + v
      at_most u v t s = omega arith

      le : num r * down e - m * up e * den r ≤ 0 * up e * den r + num r * down e
      le = at_most (m * up e * den r) (num r * down e) (up e) (den r)

      nothing : (t s v : ℕ) → 0 < v → 0 * t * s < v
      nothing t s v z = omega arith

      some : 0 * up e * den r < num r * down e
      some = nothing (up e) (den r) (num r * down e) (mul-pos (first_pos (num r) (2 ^ 537) (lt_of_lt_of_le (den_pos r) least)) (down_pos e))

  from_above : (y : Float) → T (fits binary64 y) → T (finite y) → T (lt r y) → four_times x y r < sum_squared x y r
  from_above nan f h l = absurd h
  from_above (inf s) f h l = absurd h
  from_above (fin true m e) f h l =
      absurd (rw (lt_values false true (num r) (den r) (m * up e) (down e) (den_pos r) (down_pos e) r (fin true m e) own (refl, refl)) at l)
  from_above (fin false m e) f h l =
      sum_above m e (counted false m e f)
      (ltb→lt (num r * down e) (m * up e * den r)
      (rw (lt_values false false (num r) (den r) (m * up e) (down e) (den_pos r) (down_pos e) r (fin false m e) own (refl, refl)) at l))

  is_root : IsRoot x r
  is_root = record {
    above_zero = above_zero;
    held = root_fits a g w.lo w.hi most;
    from_below = from_below;
    from_above = from_above;
  }

-- what holds of the root of every finite value above zero at its full width
at_width : (P : Float → Float → Type 0) → ((x : Float) (a g : ℕ) → Wide x a g → g ≤ 2097 → P x (root_wide a g))
    → (x : Float) → T (fits binary64 x) → T (positive x) → P x (sqrt x)
at_width P is nan f p = absurd p
at_width P is (inf s) f p = absurd p
at_width P is (fin true m e) f p = absurd p
at_width P is (fin false zero e) f p = absurd p
at_width P is (fin false (suc m) e) f p = at (fin false (suc m) e) _ _ (wide m e f) f
  where
    at : (x : Float) (a g : ℕ) → Wide x a g → T (fits binary64 x) → P x (sqrt x)
    at x a g w f = subst (P x) (sym (sqrt_wide a g x f w)) (is x a g w (wide_top a g x f w))

-- the square root of every finite value above zero
pub sqrt_is_root : (x : Float) → T (fits binary64 x) → T (positive x) → IsRoot x (sqrt x)
sqrt_is_root = at_width IsRoot is_root

-- it is at least 2 ^ -537: never subnormal
pub sqrt_least : (x : Float) → T (fits binary64 x) → T (positive x) → den (sqrt x) ≤ num (sqrt x) * 2 ^ 537
sqrt_least = at_width (λ x r. den r ≤ num r * 2 ^ 537) least

-- and of every other value
pub sqrt_elsewhere :
    (sqrt nan ≡ nan)
    × (sqrt (inf false) ≡ inf false)
    × (sqrt (inf true) ≡ nan)
    × ((s : Bool) (e : ℤ) → sqrt (fin s 0 e) ≡ fin s 0 e)
    × ((m : ℕ) (e : ℤ) → sqrt (fin true (suc m) e) ≡ nan)
unfolding sqrt
sqrt_elsewhere = (refl, refl, refl, (λ s e. refl), λ m e. refl)

-- the result is a value of the format, whatever the operand
pub sqrt_fits : (x : Float) → T (fits binary64 x) → T (fits binary64 (sqrt x))
sqrt_fits nan f = unfold sqrt in nan-fits binary64
sqrt_fits (inf false) f = unfold sqrt in inf-fits binary64 false
sqrt_fits (inf true) f = unfold sqrt in nan-fits binary64
sqrt_fits (fin s zero e) f = unfold sqrt in f
sqrt_fits (fin true (suc m) e) f = unfold sqrt in nan-fits binary64
sqrt_fits (fin false (suc m) e) f = (sqrt_is_root (fin false (suc m) e) f (lt→ltb 0 (suc m) (zero-lt-suc m))).held

-- ---- there is one nearest value

-- the midpoint of two candidates would lie on both sides of the root
not_less : (x : Float) (m : ℕ) (e : ℤ) (n : ℕ) (d : ℤ) → IsRoot x (fin false m e) → IsRoot x (fin false n d) → m * up e * down d < n * up d * down e → ⊥
unfolding lt
not_less x m e n d p q h =
    let r = fin false m e in
    let s = fin false n d in
    let l : T (lt r s) = lt→ltb (m * up e * down d) (n * up d * down e) h in
    let i : sum_squared x r s < four_times x r s = q.from_below r p.held tt l in
    let j : four_times x s r < sum_squared x s r = p.from_above s q.held tt l in
    both (m * up e) (down e) (n * up d) (down d) (num x) (den x) i j
  where
    both : (a u b v c w : ℕ) → (a * v + b * u) * (a * v + b * u) * w < 4 * c * (u * v * (u * v))
        → 4 * c * (v * u * (v * u)) < (b * u + a * v) * (b * u + a * v) * w → ⊥
    both a u b v c w i j = omega arith

pub root_unique : (x r s : Float) → IsRoot x r → IsRoot x s → r ≡ s
root_unique x nan s p q = absurd p.above_zero
root_unique x (inf t) s p q = absurd p.above_zero
root_unique x (fin true m e) s p q = absurd p.above_zero
root_unique x (fin false m e) nan p q = absurd q.above_zero
root_unique x (fin false m e) (inf t) p q = absurd q.above_zero
root_unique x (fin false m e) (fin true n d) p q = absurd q.above_zero
root_unique x (fin false m e) (fin false n d) p q =
    unique binary64 (fin false m e) (fin false n d) false (m * up e) (down e) (down_pos e) p.held q.held (refl, refl)
    (refl, le_antisymm (not_above (not_less x m e n d p q)) (not_above (not_less x n d m e q p)))
  where
    not_above : {a b : ℕ} → (b < a → ⊥) → a ≤ b
    not_above h = omega arith
