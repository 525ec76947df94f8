-- The square root and the order. Of two values above zero the one with the smaller root is the smaller (`sqrt_order`). So a limit on the root is a
-- limit on the number: where the root of t is b, and that of t's neighbour below is smaller, `lt (sqrt x) b` is `lt x t` (`sqrt_limit`). Assumes
-- nothing.
use mathlib.Core.Path.{◌≡◌, refl, sym, ◌∙◌, subst}
use mathlib.Core.Logic.{inl, inr}
use mathlib.Core.Bool.{Bool, true, false, not}
use Prim.Native.Nat.{ℕ, zero, suc, ◌+◌, ◌*◌, ◌^◌, ◌≤◌, ◌<◌}
use native.Mathlib.Nat.{le_trans, lt_of_lt_of_le, lt_irrefl, mul-pos, mul-le-mul_right, mul-lt-mul_of_pos_right, lt_of_mul-lt-mul_right, zero-lt-suc}
use native.Mathlib.Omega.{arith}
use lib.IntN.{ℤ}
use lib.Dec.{T, ltb, ltb→lt, lt→ltb}
use lib.Pow.{pow_pos}
use lib.Ieee.{Float, nan, inf, fin, binary64, up, down, fits, lt}
use lib.Ieee.Bits.{is_true}
use lib.Ieee.Exact.{HasValue}
use lib.Ieee.Fits.{down_pos, up_pos}
use lib.Ieee.Positive.{num, den, den_pos, positive}
use Rattle.arithmetic.specs.Nearest.{IsRoot}
use Rattle.arithmetic.specs.Sqrt.{sqrt}
use Rattle.arithmetic.proofs.Compared.{test_same, lt_values}
use Rattle.arithmetic.proofs.Count.{Beside, counted}
use Rattle.arithmetic.proofs.Ieee754.{sqrt_is_root}

-- ---- the order of two values above zero, by their fractions

pub lt_cross : (x y : Float) → T (positive x) → T (positive y) → lt x y ≡ ltb (num x * den y) (num y * den x)
unfolding lt
lt_cross nan y p q = absurd p
lt_cross (inf s) y p q = absurd p
lt_cross (fin true m e) y p q = absurd p
lt_cross (fin false m e) nan p q = absurd q
lt_cross (fin false m e) (inf s) p q = absurd q
lt_cross (fin false m e) (fin true n d) p q = absurd q
lt_cross (fin false m e) (fin false n d) p q = refl

module _ (x y : Float) (p : T (positive x)) (q : T (positive y)) where
  pub cross_of_lt : T (lt x y) → num x * den y < num y * den x
  cross_of_lt l = ltb→lt _ _ (subst T (lt_cross x y p q) l)

  pub lt_of_cross : num x * den y < num y * den x → T (lt x y)
  lt_of_cross h = subst T (sym (lt_cross x y p q)) (lt→ltb _ _ h)

-- x < y ≤ z
lt_le : (x y z : Float) → T (positive x) → T (positive y) → T (positive z) → T (lt x y) → (T (lt z y) → ⊥) → T (lt x z)
lt_le x y z p q r l g =
    let h = cross_of_lt x y p q l in
    let k : num y * den z ≤ num z * den y = not_below (λ s. g (lt_of_cross z y r q s)) in
    lt_of_cross x z p r (through (num x) (num y) (num z) (den x) (den y) (den z) (den_pos x) (den_pos z) h k)
  where
    not_below : {a b : ℕ} → (b < a → ⊥) → a ≤ b
    not_below h = omega arith

    through : (x y z a b c : ℕ) → 0 < a → 0 < c → x * b < y * a → y * c ≤ z * b → x * c < z * a
    through x y z a b c A C h k =
        let i : x * b * c < y * a * c = mul-lt-mul_of_pos_right h C in
        let j : y * c * a ≤ z * b * a = mul-le-mul_right a k in
        lt_of_mul-lt-mul_right b (omega arith)

-- ---- the smaller root

-- the midpoint of the two roots lies above the root of x and below the root of y
between : (s e x a y b : ℕ) → 0 < a → 0 < b → 4 * x * e < s * a → s * b < 4 * y * e → x * b < y * a
between s e x a y b A B h k =
    let i : 4 * x * e * b < s * a * b = mul-lt-mul_of_pos_right h B in
    let j : s * b * a < 4 * y * e * a = mul-lt-mul_of_pos_right k A in
    lt_of_mul-lt-mul_right (4 * e) (omega arith)

module _ (x y : Float) where
  by_roots : (r s : Float) → IsRoot x r → IsRoot y s → T (lt r s) → num x * den y < num y * den x
  by_roots nan s p q l = absurd p.above_zero
  by_roots (inf t) s p q l = absurd p.above_zero
  by_roots (fin true m e) s p q l = absurd p.above_zero
  by_roots (fin false m e) nan p q l = absurd q.above_zero
  by_roots (fin false m e) (inf t) p q l = absurd q.above_zero
  by_roots (fin false m e) (fin true n d) p q l = absurd q.above_zero
  by_roots (fin false m e) (fin false n d) p q l =
      let r = fin false m e in
      let s = fin false n d in
      meet (m * up e) (down e) (n * up d) (down d) (p.from_above s q.held tt l) (q.from_below r p.held tt l)
    where
      meet : (a u b v : ℕ) → 4 * num x * (v * u * (v * u)) < (b * u + a * v) * (b * u + a * v) * den x
          → (a * v + b * u) * (a * v + b * u) * den y < 4 * num y * (u * v * (u * v)) → num x * den y < num y * den x
      meet a u b v i j =
          between ((b * u + a * v) * (b * u + a * v)) (v * u * (v * u)) (num x) (den x) (num y) (den y) (den_pos x) (den_pos y) i (same (den y) (num y) j)
        where
          same : (w z : ℕ) → (a * v + b * u) * (a * v + b * u) * w < 4 * z * (u * v * (u * v))
              → (b * u + a * v) * (b * u + a * v) * w < 4 * z * (v * u * (v * u))
          same w z h = omega arith

  pub sqrt_order : T (fits binary64 x) → T (fits binary64 y) → T (positive x) → T (positive y) → T (lt (sqrt x) (sqrt y)) → T (lt x y)
  sqrt_order f g p q l = lt_of_cross x y p q (by_roots (sqrt x) (sqrt y) (sqrt_is_root x f p) (sqrt_is_root y g q) l)

-- ---- neighbours of full width: a and a + 1 in units of 2 ^ k smallest values, with no value of the format between

pub record Neighbours (lower upper : Float) : Type 0 where
  pub digits : ℕ
  pub unit : ℕ
  pub wide : 2 ^ 52 ≤ digits
  pub lower_is : HasValue lower false (digits * 2 ^ unit) (2 ^ 1074)
  pub upper_is : HasValue upper false (suc digits * 2 ^ unit) (2 ^ 1074)

module _ (lower upper : Float) (n : Neighbours lower upper) where
  abbrev a : ℕ
  a = n.digits

  abbrev u : ℕ
  u = 2 ^ n.unit

  no_count : (c : ℕ) → Beside u c → a * u < c → c < suc a * u → ⊥
  no_count c (inl (w, e)) h k = apart w (lt_of_mul-lt-mul_right u (rw e at h)) (lt_of_mul-lt-mul_right u (rw e at k))
    where
      apart : (w : ℕ) → a < w → w < suc a → ⊥
      apart w h k = omega arith
  no_count c (inr l) h k = lt_irrefl c (lt_of_lt_of_le l (le_trans (mul-le-mul_right u n.wide) (below h)))
    where
      below : {p q : ℕ} → p < q → p ≤ q
      below h = omega arith

  pub nothing_between : (x : Float) → T (fits binary64 x) → T (positive x) → T (lt lower x) → T (lt x upper) → ⊥
  nothing_between nan f p h k = absurd p
  nothing_between (inf s) f p h k = absurd p
  nothing_between (fin true m e) f p h k = absurd p
  nothing_between (fin false m e) f p h k =
      let c = counted false m e f in
      let x = fin false m e in
      let P = pow_pos 1074 in
      no_count c.count (c.beside n.unit)
      (lt_of_mul-lt-mul_right (2 ^ 1074) (ltb→lt _ _ (subst T
      (lt_values false false (a * u) (2 ^ 1074) c.count (2 ^ 1074) P P lower x n.lower_is (refl, c.value)) h)))
      (lt_of_mul-lt-mul_right (2 ^ 1074) (ltb→lt _ _ (subst T
      (lt_values false false c.count (2 ^ 1074) (suc a * u) (2 ^ 1074) P P x upper (refl, c.value) n.upper_is) k)))

-- ---- a limit on the root

-- infinity is above, and zero below, every value above zero
infinite : (y : Float) → T (positive y) → lt (inf false) y ≡ false
unfolding lt
infinite nan p = absurd p
infinite (inf s) p = absurd p
infinite (fin true n d) p = absurd p
infinite (fin false n d) p = refl

nothing : (e : ℤ) (y : Float) → T (positive y) → lt (fin false 0 e) y ≡ true
unfolding lt
nothing e nan p = absurd p
nothing e (inf s) p = absurd p
nothing e (fin true n d) p = absurd p
nothing e (fin false n d) p = is_true (ltb (0 * up e * down d) (n * up d * down e))
    (lt→ltb _ _ (none (up e) (down d) (n * up d * down e) (mul-pos (mul-pos (ltb→lt 0 n p) (up_pos d)) (down_pos e))))
  where
    none : (u v w : ℕ) → 0 < w → 0 * u * v < w
    none u v w h = omega arith

-- no sign, or a NaN
abbrev pub unsigned : Float → Bool
unsigned nan = true
unsigned (inf s) = not s
unsigned (fin s m e) = not s

module _ (lower upper : Float) (n : Neighbours lower upper) (f : T (fits binary64 lower)) (g : T (fits binary64 upper)) (p : T (positive lower))
    (q : T (positive upper))
    (l : T (lt (sqrt lower) (sqrt upper))) where
  above : (x : Float) → T (fits binary64 x) → T (positive x) → lt (sqrt x) (sqrt upper) ≡ lt x upper
  above x h r = test_same (lt (sqrt x) (sqrt upper)) (lt x upper) (sqrt_order x upper h g r q) (back (lt (sqrt x) (sqrt upper)) (λ k. k))
    where
      back : (b : Bool) → (T (lt (sqrt x) (sqrt upper)) → T b) → T (lt x upper) → T b
      back true k i = tt
      back false k i =
          nothing_between lower upper n x h r
          (sqrt_order lower x f h p r
          (lt_le (sqrt lower) (sqrt upper) (sqrt x) (sqrt_is_root lower f p).above_zero (sqrt_is_root upper g q).above_zero
          (sqrt_is_root x h r).above_zero l k))
          i

  root : T (positive (sqrt upper))
  root = (sqrt_is_root upper g q).above_zero

  pub sqrt_limit : (x : Float) → T (fits binary64 x) → T (unsigned x) → lt (sqrt x) (sqrt upper) ≡ lt x upper
  unfolding sqrt
  sqrt_limit nan h u = unfold lt in refl
  sqrt_limit (inf true) h u = absurd u
  sqrt_limit (inf false) h u = infinite (sqrt upper) root ∙ sym (infinite upper q)
  sqrt_limit (fin true m e) h u = absurd u
  sqrt_limit (fin false zero e) h u = nothing e (sqrt upper) root ∙ sym (nothing e upper q)
  sqrt_limit (fin false (suc m) e) h u = above (fin false (suc m) e) h (lt→ltb 0 (suc m) (zero-lt-suc m))
