-- A value above zero at the full width of binary64: a * 2 ^ g in units of 2 ^ -1126, where a has 53 digits. Every value has one such form,
-- and `sqrt` is a function of it. Assumes nothing.
use mathlib.Core.Path.{◌≡◌, refl, sym, ap, ◌∙◌}
use Prim.Native.Nat.{ℕ, zero, suc, ◌+◌, ◌-◌, ◌*◌, ◌/◌, ◌%◌, ◌^◌, ◌≤◌, ◌<◌}
use native.Mathlib.Nat.{le_of_eq, lt_of_lt_of_le, lt_of_le_of_lt, zero-lt-suc, mul-pos, mul-lt-mul_of_pos_right, lt_of_mul-lt-mul_right, mul_right_comm, eq_of_mul-eq-mul_right}
use native.Mathlib.Omega.{arith}
use mathlib.Core.Bool.{true, false, true≢false}
use lib.IntN.{ℤ}
use lib.Count.{leading_top}
use lib.Dec.{T, lit<}
use lib.Pow.{pow-add, pow_pos, pow_mono, shl_lt}
use lib.Ieee.{Float, nan, inf, fin, binary64, down, size, odd, fits}
use lib.Ieee.Exact.{HasValue}
use lib.Ieee.Fits.{down_pos, odd-fits}
use Rattle.arithmetic.specs.Sqrt.{nearest_root, height, root_of, sqrt}
use Rattle.arithmetic.proofs.Powers.{apart, power_lt, size_is, shifted_ge, shifted_lt, shifted_size}
use Rattle.arithmetic.proofs.Units.{rise, fitting, count}
use Rattle.arithmetic.proofs.Root.{Near, nearest_near, near_ge, near_le}
use Rattle.arithmetic.proofs.Count.{height_is, scale, not_zero, odd_shift}

pub record Wide (x : Float) (a g : ℕ) : Type 0 where
  pub lo : 2 ^ 52 ≤ a
  pub hi : a < 2 ^ 53
  pub value : HasValue x false (a * 2 ^ g) (2 ^ 1126)

-- z places of the exponent go to the significand
pub moved : (m h z : ℕ) → z ≤ 52 → m * 2 ^ z * 2 ^ (h + 52 - z) ≡ m * 2 ^ h * 2 ^ 52
moved m h z l = sym (apart m (h + 52) z (h + 52 - z) (omega arith)) ∙ apart m (h + 52) h 52 refl

-- the digits that m lacks
abbrev pub short : ℕ → ℕ
short m = 53 - size m

pub wide : (m : ℕ) (e : ℤ) → T (fits binary64 (fin false (suc m) e)) → Wide (fin false (suc m) e) (suc m * 2 ^ short (suc m)) (height e + 52 - short (suc m))
wide m e f =
    let n = suc m in
    let t = leading_top 53 n (zero-lt-suc m) (fitting binary64 false n e f).small in
    let j = t.0 in
    let i = t.1 in
    let s = size_is n j t.2 t.3 in
    let k : j + short n ≡ 52 = omega arith in
    record {
      lo = shifted_ge n j (short n) t.2 t.3 52 k;
      hi = shifted_lt n j (short n) t.2 t.3 52 k;
      value =
          rw (moved n (height e) (short n) (omega arith), height_is e)
          (scale (fin false n e) false (n * 2 ^ rise binary64 e) (2 ^ 1074) (2 ^ 52) (count binary64 false n e f));
    }

form_unique : (a g b k : ℕ) → 2 ^ 52 ≤ a → a < 2 ^ 53 → 2 ^ 52 ≤ b → b < 2 ^ 53 → a * 2 ^ g ≡ b * 2 ^ k → (a ≡ b) × (g ≡ k)
form_unique a g b k la ha lb hb h =
    let e : g ≡ k = omega (arith, shifted_size a 52 g la ha, shifted_size b 52 k lb hb, ap size h) in (
      eq_of_mul-eq-mul_right (2 ^ g) (pow_pos g) a b (h ∙ ap (λ (x : ℕ). b * 2 ^ x) (sym e)),
      e,
    )

-- the one form of a value
pub wide_form : (m : ℕ) (e : ℤ) (a g : ℕ) → T (fits binary64 (fin false (suc m) e)) → Wide (fin false (suc m) e) a g
    → (suc m * 2 ^ short (suc m) ≡ a) × (height e + 52 - short (suc m) ≡ g)
wide_form m e a g f w =
    let v = wide m e f in
    let n = suc m * 2 ^ short (suc m) in
    let k = height e + 52 - short (suc m) in
    let same = sym v.value.1 ∙ w.value.1 in
    form_unique n k a g v.lo v.hi w.lo w.hi (eq_of_mul-eq-mul_right (down e) (down_pos e) (n * 2 ^ k) (a * 2 ^ g) same)

-- the root's digits, for a * 2 ^ g: the parity of g goes to the number, so that half of what is left is whole
abbrev pub scaled : ℕ → ℕ → ℕ
scaled a g = a * 2 ^ (g % 2) * 2 ^ 52

abbrev pub root_wide : ℕ → ℕ → Float
root_wide a g = odd 54 false (nearest_root 53 (scaled a g)) (g / 2 + 485) 1074

module _ (a g : ℕ) where
  pub sqrt_wide : (x : Float) → T (fits binary64 x) → Wide x a g → sqrt x ≡ root_wide a g
  unfolding sqrt
  sqrt_wide nan f w = absurd w.value
  sqrt_wide (inf s) f w = absurd w.value
  sqrt_wide (fin s zero e) f w = absurd (not_zero s e false (a * 2 ^ g) (2 ^ 1126) (mul-pos (lt_of_lt_of_le (lit< tt) w.lo) (pow_pos g)) w.value)
  sqrt_wide (fin true (suc m) e) f w = absurd (true≢false w.value.0)
  sqrt_wide (fin false (suc m) e) f w =
      let n = suc m in
      let z = short n in
      let k = height e + 52 - z in
      let u = wide_form m e a g f w in
      unfold root_of in (
      sym (odd_shift 54 false (nearest_root 53 (n * 2 ^ (z + 52 + k % 2))) (k / 2) 589 485)
      ∙ ap (λ (x : ℕ). odd 54 false (nearest_root 53 x) (k / 2 + 485) 1074) (regroup n z (k % 2))
      ∙ ap (λ (x : ℕ). odd 54 false (nearest_root 53 (x * 2 ^ (k % 2) * 2 ^ 52)) (k / 2 + 485) 1074) u.0
      ∙ ap (λ (x : ℕ). odd 54 false (nearest_root 53 (a * 2 ^ (x % 2) * 2 ^ 52)) (x / 2 + 485) 1074) u.1
      )
    where
      regroup : (n z r : ℕ) → n * 2 ^ (z + 52 + r) ≡ n * 2 ^ z * 2 ^ r * 2 ^ 52
      regroup n z r = rw (pow-add, pow-add) (omega arith)

  -- the largest exponent
  pub wide_top : (x : Float) → T (fits binary64 x) → Wide x a g → g ≤ 2097
  wide_top nan f w = absurd w.value
  wide_top (inf s) f w = absurd w.value
  wide_top (fin s m e) f w =
      let r = mul-lt-mul_of_pos_right (fitting binary64 s m e f).range (pow_pos 1126) in
      let s = lt_of_lt_of_le r (le_of_eq (mul_right_comm (2 ^ 1024) (down e) (2 ^ 1126))) in
      let l : a * 2 ^ g < 2 ^ 2150 = lt_of_mul-lt-mul_right (down e) (rw (← w.value.1) s) in
      let h : 52 + g < 2150 = power_lt (52 + g) 2150 (lt_of_le_of_lt (shifted_ge a 52 g w.lo w.hi (52 + g) refl) l) in
      omega arith

-- ---- the root of a number of full width

double : (a p : ℕ) → p < 2 → (a ≤ a * 2 ^ p) × (a * 2 ^ p ≤ 2 * a)
double a zero h = (omega arith, omega arith)
double a (suc zero) h = (omega arith, omega arith)
double a (suc (suc p)) h = absurd (omega arith)

module _ (a g : ℕ) (lo : 2 ^ 52 ≤ a) (hi : a < 2 ^ 53) where
  pub scaled_half : a * 2 ^ (g % 2) < 2 ^ 54
  scaled_half = let d = (double a (g % 2) (omega arith)).1 in omega arith

  pub scaled_lo : 2 ^ 104 ≤ scaled a g
  scaled_lo = let d = (double a (g % 2) (omega arith)).0 in omega arith

  pub root_near : Near (scaled a g) (nearest_root 53 (scaled a g))
  root_near = nearest_near 53 (scaled a g) (let h = scaled_half in omega arith) (lt_of_lt_of_le (lit< tt) scaled_lo)

  pub root_lo : 2 ^ 52 ≤ nearest_root 53 (scaled a g)
  root_lo = near_ge (scaled a g) (nearest_root 53 (scaled a g)) (2 ^ 52) root_near scaled_lo

  pub root_hi : nearest_root 53 (scaled a g) ≤ 2 ^ 53
  root_hi = near_le (scaled a g) (nearest_root 53 (scaled a g)) (2 ^ 53) root_near (let h = scaled_half in omega arith)

  pub root_fits : g ≤ 2097 → T (fits binary64 (root_wide a g))
  root_fits h =
      let q = nearest_root 53 (scaled a g) in
      odd-fits binary64 54 false q (g / 2 + 485) (lt_of_le_of_lt root_hi (lit< tt)) root_hi
      (lt_of_lt_of_le (shl_lt 54 (g / 2 + 485) (lt_of_le_of_lt root_hi (lit< tt))) (pow_mono {i = 54 + (g / 2 + 485)} {j = 2098} (omega arith)))
