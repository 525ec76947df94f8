-- A value of binary64 as a count of the smallest one, 2 ^ -1074: `height` is where the count's digits start, a bit pattern's count is read off its fields,
-- and every count lies on a grid or below it. Assumes nothing.
use mathlib.Core.Path.{◌≡◌, refl, sym, ap, ◌∙◌}
use mathlib.Core.Logic.{◌⊎◌, inl, inr}
use Prim.Native.Nat.{ℕ, zero, suc, ◌+◌, ◌-◌, ◌*◌, ◌/◌, ◌%◌, ◌^◌, ◌≤◌, ◌<◌}
use native.Mathlib.Nat.{le_trans, le_of_eq, lt_of_lt_of_le, lt_irrefl, lt_of_not-le, mod-eq_of_lt, add_right_comm, zero-mul, mul-pos, mul_assoc, mul_right_comm}
use native.Mathlib.Decide.{dec_le}
use native.Mathlib.Omega.{arith}
use mathlib.Core.Bool.{Bool, false}
use borrow.Author.Tests.{lt-leb, ne_eqb}
use lib.IntN.{ℤ, pos, negsuc}
use lib.Dec.{T, leb, leb→le, le→leb}
use lib.Pow.{pow-add, pow_mono, shl_lt}
use lib.Count.{count_trailing_zeros}
use lib.Ieee.{Float, fin, binary64, up, down, minus, odd, of_fields, of_bits, fits}
use lib.Ieee.Exact.{HasValue, odd_sign}
use lib.Ieee.Fits.{down_pos}
use lib.Ieee.Positive.{first_pos}
use Rattle.arithmetic.specs.Sqrt.{height}
use Rattle.arithmetic.proofs.Compared.{test_same}
use Rattle.arithmetic.proofs.Powers.{apart}
use Rattle.arithmetic.proofs.Units.{of_value, rise, fitting, count}

-- ---- counts

pub height_is : (e : ℤ) → height e ≡ rise binary64 e
height_is (pos k) = refl
height_is (negsuc k) = omega arith

pub scale : (x : Float) (s : Bool) (a c t : ℕ) → HasValue x s a c → HasValue x s (a * t) (c * t)
scale x s a c t =
    of_value (λ y. HasValue y s (a * t) (c * t)) s a c (λ m e h. (
      refl,
      sym (mul_assoc (m * up e) c t) ∙ ap (λ (n : ℕ). n * t) h
          ∙ mul_right_comm a (down e) t,
    )) x

-- of a count above 0 no zero
pub not_zero : (s : Bool) (e : ℤ) (t : Bool) (a c : ℕ) → 0 < a → HasValue (fin s 0 e) t a c → ⊥
not_zero s e t a c A v = lt_irrefl 0 (first_pos 0 (up e) (first_pos (0 * up e) c (rw v.1 (mul-pos A (down_pos e)))))

-- ---- a pattern's fields

module _ (b : ℕ) (hi : b < 2 ^ 63) where
  pub plus_fields : of_bits binary64 b ≡ of_fields binary64 false (b / 2 ^ 52) (b % 2 ^ 52)
  unfolding of_bits
  plus_fields = rw (lt-leb (2 ^ 63) b hi, mod-eq_of_lt hi)

  pub low_count : b / 2 ^ 52 ≡ 0 → HasValue (of_bits binary64 b) false (b % 2 ^ 52 * 2 ^ 0) (2 ^ 1074)
  unfolding of_fields
  low_count e = rw (plus_fields, e) (odd_sign 53 false (b % 2 ^ 52) 0 1074)

  pub count_at : (x t : ℕ) → b ≡ suc x * 2 ^ 52 + t → t < 2 ^ 52 → x < 2046 → HasValue (of_bits binary64 b) false ((2 ^ 52 + t) * 2 ^ x) (2 ^ 1074)
  unfolding of_fields
  count_at x t e l h =
      let f : b / 2 ^ 52 ≡ suc x = omega arith in
      let g : b % 2 ^ 52 ≡ t = omega arith in
      rw (plus_fields, f, g, ne_eqb (suc x) 2047 (λ z. omega arith)) (odd_sign 53 false (2 ^ 52 + t) x 1074)

-- ---- the same number with a larger exponent below the line

minus_shift : (a l c : ℕ) → minus (a + c) (l + c) ≡ minus a l
minus_shift a l c =
    let t : leb (l + c) (a + c) ≡ leb l a = test_same (leb (l + c) (a + c)) (leb l a) (λ h. le→leb l a (omega (arith, leb→le (l + c) (a + c) h)))
    (λ h. le→leb (l + c) (a + c) (omega (arith, leb→le l a h))) in
    let p : a + c - (l + c) ≡ a - l = omega arith in
    let n : l + c - suc (a + c) ≡ l - suc a = omega arith in
    rw (t, p, n)

pub odd_shift : (d : ℕ) (s : Bool) (q k l c : ℕ) → odd d s q (k + c) (l + c) ≡ odd d s q k l
unfolding odd
odd_shift d s zero k l c = refl
odd_shift d s (suc q) k l c =
    let t = count_trailing_zeros d (suc q) in
    ap (fin s (suc q / 2 ^ t)) (ap (λ (x : ℕ). minus x (l + c)) (add_right_comm k c t) ∙ minus_shift (k + t) l c)

-- ---- every finite value of the format has a count, and lies on every coarser grid or below its numbers of full width

abbrev pub Beside : ℕ → ℕ → Type 0
Beside p c = ((w : ℕ) × (c ≡ w * p)) ⊎ (c < 2 ^ 52 * p)

pub record Counted (m : ℕ) (e : ℤ) : Type 0 where
  pub count : ℕ
  pub value : m * up e * 2 ^ 1074 ≡ count * down e
  pub beside : (k : ℕ) → Beside (2 ^ k) count

grid : (n j k : ℕ) → n < 2 ^ 53 → Beside (2 ^ k) (n * 2 ^ j)
grid n j k h = go (dec_le k j)
  where
    go : Dec (k ≤ j) → Beside (2 ^ k) (n * 2 ^ j)
    go (yes l) = inl (n * 2 ^ (j - k), apart n j (j - k) k (omega arith))
    go (no l) =
        let g = lt_of_not-le l in
        inr (lt_of_lt_of_le (shl_lt 53 j h) (le_trans (pow_mono {i = 53 + j} {j = 52 + k} (omega arith)) (le_of_eq (pow-add 2 52 k))))

pub counted_zero : (e : ℤ) → Counted 0 e
counted_zero e = record {
  count = 0;
  value = ap (λ (x : ℕ). x * 2 ^ 1074) (zero-mul (up e)) ∙ sym (zero-mul (down e));
  beside =
      λ k. inl (0, sym (zero-mul (2 ^ k)));
}

pub counted : (s : Bool) (m : ℕ) (e : ℤ) → T (fits binary64 (fin s m e)) → Counted m e
counted s m e h = record {
  count = m * 2 ^ rise binary64 e;
  value = (count binary64 s m e h).1;
  beside =
      λ k. grid m (rise binary64 e) k (fitting binary64 s m e h).small;
}
