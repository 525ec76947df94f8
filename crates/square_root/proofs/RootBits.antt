-- The square root by bit patterns: which are of finite values above zero, what `sqrt` gives elsewhere, and the pattern of the root.
-- Assumes nothing.
use mathlib.Core.Path.{◌≡◌, refl, sym, ap, ◌∙◌, subst}
use mathlib.Core.Logic.{◌⊎◌, inl, inr}
use Prim.Native.Nat.{ℕ, zero, suc, ◌+◌, ◌-◌, ◌*◌, ◌/◌, ◌%◌, ◌^◌, ◌≤◌, ◌<◌}
use native.Mathlib.Nat.{eq-or-lt_of_le, zero-lt-suc, mul-pos, pow-succ'}
use native.Mathlib.Omega.{arith}
use mathlib.Core.Bool.{Bool, true, false, not, cond, false≢true}
use borrow.Author.Tests.{ltb-true, ltb-false}
use lib.Arith.{le→nltb}
use lib.Dec.{T, eqb}
use lib.Pow.{pow_pos}
use lib.Ieee.{Float, nan, inf, fin, binary64, up, down, odd, lt, of_fields, of_bits, nan_bits, fits}
use lib.Ieee.Bits.{of_bits-fits, nan_bits_above}
use lib.Ieee.Exact.{HasValue, odd_sign}
use lib.Ieee.Fits.{up_pos}
use lib.Ieee.Positive.{positive}
use Rattle.arithmetic.specs.Sqrt.{nearest_root, sqrt}
use Rattle.arithmetic.proofs.Units.{unique}
use Rattle.arithmetic.proofs.Count.{plus_fields, count_at}
use Rattle.arithmetic.proofs.Width.{Wide, scaled, root_wide, sqrt_wide, scaled_half, scaled_lo, root_lo, root_hi, root_fits}
use Rattle.square_root.specs.Root.{Radicand}
use Rattle.elementary.specs.Signs.{negative}

-- ---- which patterns are of finite values above zero

-- infinity's pattern, or a NaN's
pub top_not_positive : (b : ℕ) → 2047 * 2 ^ 52 ≤ b → b < 2 ^ 63 → positive (of_bits binary64 b) ≡ false
unfolding of_fields
top_not_positive b lo hi =
    let e : b / 2 ^ 52 ≡ 2047 = omega arith in
    rw (plus_fields b hi, e) (go (eqb (b % 2 ^ 52) 0))
  where
    go : (t : Bool) → positive (cond t (inf false) nan) ≡ false
    go true = refl
    go false = refl

pub negative_not_positive : (x : Float) → negative x ≡ true → positive x ≡ false
unfolding negative
negative_not_positive nan s = refl
negative_not_positive (inf t) s = refl
negative_not_positive (fin true m e) s = refl
negative_not_positive (fin false m e) s = absurd (false≢true s)

-- ---- where the root is no rounding

pub below_zero : (x : Float) → lt x (of_bits binary64 0) ≡ true → nan ≡ sqrt x
unfolding sqrt lt of_bits
below_zero nan l = refl
below_zero (inf true) l = refl
below_zero (inf false) l = absurd (false≢true l)
below_zero (fin true zero e) l = absurd (nothing (up e) (down e) (ltb-true _ _ l))
  where
    nothing : (u d : ℕ) → 0 < 0 * u * 1 + 0 * 1 * d → ⊥
    nothing u d h = omega arith
below_zero (fin true (suc m) e) l = refl
below_zero (fin false m e) l = absurd (nothing (m * up e * 1) (down e) (ltb-true _ _ l))
  where
    nothing : (a d : ℕ) → a < 0 * 1 * d → ⊥
    nothing a d h = omega arith

pub own_root : (x : Float) → positive x ≡ false → lt x (of_bits binary64 0) ≡ false → x ≡ sqrt x
unfolding sqrt lt of_bits
own_root nan p l = refl
own_root (inf true) p l = absurd (false≢true (sym l))
own_root (inf false) p l = refl
own_root (fin true zero e) p l = refl
own_root (fin true (suc m) e) p l = absurd (some (suc m * up e) (down e) (mul-pos (zero-lt-suc m) (up_pos e)) (ltb-false _ _ l))
  where
    some : (a d : ℕ) → 0 < a → a * 1 + 0 * 1 * d ≤ 0 → ⊥
    some a d h k = omega arith
own_root (fin false zero e) p l = refl
own_root (fin false (suc m) e) p l = absurd (omega (arith, ltb-false 0 (suc m) p))

-- ---- the pattern of q * 2 ^ k of the smallest values, q having 53 digits or being 2 ^ 53

module _ (q k : ℕ) (lo : 2 ^ 52 ≤ q) (hi : q ≤ 2 ^ 53) (top : k ≤ 1533) where
  abbrev pub pattern : ℕ
  pattern = k * 2 ^ 52 + q

  pub pattern_number : T (not (nan_bits binary64 pattern))
  pattern_number = rw (nan_bits_above binary64 pattern) (le→nltb (2047 * 2 ^ 52) (pattern % 2 ^ 63) (omega arith))

  pattern_count : HasValue (of_bits binary64 pattern) false (q * 2 ^ k) (2 ^ 1074)
  pattern_count = go (eq-or-lt_of_le hi)
    where
      small : pattern < 2 ^ 63
      small = omega arith

      go : (q ≡ 2 ^ 53) ⊎ (q < 2 ^ 53) → HasValue (of_bits binary64 pattern) false (q * 2 ^ k) (2 ^ 1074)
      go (inl e) =
          subst (λ (x : ℕ). HasValue (of_bits binary64 pattern) false x (2 ^ 1074))
          (ap (λ (x : ℕ). 2 ^ 52 * x) (pow-succ' 2 k) ∙ omega arith ∙ ap (λ (x : ℕ). x * 2 ^ k) (sym e))
          (count_at pattern small (suc k) 0 (omega arith) (omega arith) (omega arith))
      go (inr l) =
          let e : 2 ^ 52 + (q - 2 ^ 52) ≡ q = omega arith in
          subst (λ (x : ℕ). HasValue (of_bits binary64 pattern) false (x * 2 ^ k) (2 ^ 1074)) e
          (count_at pattern small k (q - 2 ^ 52) (omega arith) (omega arith) (omega arith))

  pub pattern_is : T (fits binary64 (odd 54 false q k 1074)) → of_bits binary64 pattern ≡ odd 54 false q k 1074
  pattern_is f =
      unique binary64 (of_bits binary64 pattern) (odd 54 false q k 1074) false (q * 2 ^ k) (2 ^ 1074) (pow_pos 1074)
      (of_bits-fits binary64 pattern) f pattern_count (odd_sign 54 false q k 1074)

-- ---- the parts that `sqrt` finds, put together

module _ (x : Float) (m e : ℕ) (n : Radicand x m e) where
  abbrev full : ℕ
  full = scaled n.a n.g

  pub radicand_is : m * 2 ^ 52 ≡ full
  radicand_is = ap (λ (z : ℕ). z * 2 ^ 52) n.m_is

  pub radicand_hi : m < 2 ^ 54
  radicand_hi = omega (arith, n.m_is, scaled_half n.a n.g n.lo n.hi)

  pub radicand_lo : 2 ^ 52 ≤ m
  radicand_lo = omega (arith, radicand_is, scaled_lo n.a n.g n.lo n.hi)

  pub radicand_wide : Wide x n.a n.g
  radicand_wide = record { lo = n.lo; hi = n.hi; value = n.value }

  pub e_most : e + 485 ≤ 1533
  e_most = omega (arith, n.e_is, n.top)

  module _ (q : ℕ) (is : q ≡ nearest_root 53 (m * 2 ^ 52)) where
    -- the pattern as the code has it
    abbrev pub made : ℕ
    made = (e + 485) * 2 ^ 52 % 2 ^ 64 + q

    root_is : q ≡ nearest_root 53 full
    root_is = is ∙ ap (nearest_root 53) radicand_is

    q_lo : 2 ^ 52 ≤ q
    q_lo = rw root_is (root_lo n.a n.g n.lo n.hi)

    q_hi : q ≤ 2 ^ 53
    q_hi = rw root_is (root_hi n.a n.g n.lo n.hi)

    plain : made ≡ (e + 485) * 2 ^ 52 + q
    plain = omega (arith, e_most)

    pub made_lt : made < 2 ^ 64
    made_lt = omega (arith, q_hi, e_most)

    pub made_number : T (not (nan_bits binary64 made))
    made_number = rw plain (pattern_number q (e + 485) q_lo q_hi e_most)

    pub made_root : T (fits binary64 x) → of_bits binary64 made ≡ sqrt x
    made_root f =
        let by-root = ap (λ (z : ℕ). odd 54 false z (e + 485) 1074) root_is in
        let by-half = ap (λ (z : ℕ). odd 54 false (nearest_root 53 full) (z + 485) 1074) n.e_is in
        let s : odd 54 false q (e + 485) 1074 ≡ root_wide n.a n.g = by-root ∙ by-half in
        ap (of_bits binary64) plain
        ∙ pattern_is q (e + 485) q_lo q_hi e_most (rw s (root_fits n.a n.g n.lo n.hi n.top))
        ∙ s
        ∙ sym (sqrt_wide n.a n.g x f radicand_wide)
