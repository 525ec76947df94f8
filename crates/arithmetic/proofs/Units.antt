-- A finite value in units of its format's smallest, 2 ^ -low: how many there are, that there are few enough digits, and that a value with its sign is
-- written in one way only, so that a fraction that equals a value of the format rounds to it. Assumes nothing.
use mathlib.Core.Path.{◌≡◌, refl, sym, ap, ◌∙◌, subst}
use Prim.Native.Nat.{ℕ, zero, suc, ◌+◌, ◌-◌, ◌*◌, ◌/◌, ◌%◌, ◌^◌, ◌≤◌, ◌<◌}
use native.Mathlib.Nat.{le_trans, le_of_eq, lt_of_lt_of_le, lt_of_not-le, not-le_of_lt, one-mul, mul-one, mul_comm, mul_assoc, mul_right_comm, mul-le-mul_right, mul-lt-mul_of_pos_right, lt_of_mul-lt-mul_right, mul-pos, zero-mul}
use native.Mathlib.Decide.{dec_le}
use native.Mathlib.Omega.{arith}
use mathlib.Core.Bool.{Bool, ◌&&◌, cond}
use lib.IntN.{ℤ, pos, negsuc}
use lib.Dec.{T, leb, ltb, eqb, ltb→lt, leb→le, eqb→eq}
use lib.Pow.{pow-add, pow_pos, pow-lt}
use lib.Ieee.{Float, nan, inf, fin, Format, prec, emax, low, top, hid, up, down, size, round, fits, to_bits, of_bits}
use lib.Ieee.Bits.{of_bits-to_bits}
use lib.Ieee.Exact.{HasValue, round_exact}
use lib.Ieee.Fits.{up_pos, down_pos, and_l, and_r, round-fits}
use lib.Ieee.Nearest.{div_same}
use lib.Ieee.Scale.{round_same, overflow}

-- ---- what holds of every finite value of a sign and a size holds of every x that has them

pub of_value : (P : Float → Type 0) (s : Bool) (a c : ℕ) → ((m : ℕ) (e : ℤ) → m * up e * c ≡ a * down e → P (fin s m e)) → (x : Float) → HasValue x s a c → P x
of_value P s a c f nan v = absurd v
of_value P s a c f (inf t) v = absurd v
of_value P s a c f (fin t m e) v = subst (λ b. P (fin b m e)) (sym v.0) (f m e v.1)

pub of_values : (P : Float → Float → Type 0) (s : Bool) (a c : ℕ) (t : Bool) (b d : ℕ)
    → ((m : ℕ) (e : ℤ) (n : ℕ) (g : ℤ) → m * up e * c ≡ a * down e → n * up g * d ≡ b * down g → P (fin s m e) (fin t n g))
    → (x y : Float) → HasValue x s a c → HasValue y t b d → P x y
of_values P s a c t b d f x y v w = of_value (λ z. P z y) s a c (λ m e h. of_value (P (fin s m e)) t b d (λ n g k. f m e n g h k) y w) x v

-- ---- what fits, and its count of units

-- 2 ^ e is 2 ^ rise units
abbrev pub rise : Format → ℤ → ℕ
rise f (pos k) = low f + k
rise f (negsuc k) = low f - suc k

abbrev pub Units : Format → Float → Bool → ℕ → Type 0
Units f x s n = HasValue x s n (2 ^ low f)

pub record Fitting (f : Format) (m : ℕ) (e : ℤ) : Type 0 where
  -- few enough digits, and no exponent below the smallest
  pub small : m < 2 ^ prec f
  pub fine : down e ≤ 2 ^ low f
  -- the size is below 2 ^ (emax + 1)
  pub range : m * up e < 2 ^ suc (emax f) * down e

pub fitting : (f : Format) (s : Bool) (m : ℕ) (e : ℤ) → T (fits f (fin s m e)) → Fitting f m e
unfolding fits
fitting f s zero e h =
    let o : up e * down e ≡ 1 = eqb→eq (up e * down e) 1 h in
    record {
      small = pow_pos (prec f);
      fine = le_trans (le_trans (le_of_eq (sym (one-mul (down e)))) (mul-le-mul_right (down e) (up_pos e))) (le_trans (le_of_eq o) (pow_pos (low f)));
      range = subst (λ n. n < 2 ^ suc (emax f) * down e) (sym (zero-mul (up e))) (mul-pos (pow_pos (suc (emax f))) (down_pos e));
    }
fitting f s (suc m) e h =
    let a : Bool = eqb (suc m % 2) 1 in
    let b : Bool = ltb (suc m) (2 ^ prec f) in
    let c : Bool = leb (down e) (2 ^ low f) in
    let d : Bool = ltb (suc m * up e) (2 ^ suc (emax f) * down e) in
    record {
      small = ltb→lt (suc m) (2 ^ prec f) (and_r a b (and_l (a && b) c (and_l (a && b && c) d h)));
      fine = leb→le (down e) (2 ^ low f) (and_r (a && b) c (and_l (a && b && c) d h));
      range = ltb→lt (suc m * up e) (2 ^ suc (emax f) * down e) (and_r (a && b && c) d h);
    }

rise_is : (f : Format) (e : ℤ) → down e ≤ 2 ^ low f → up e * 2 ^ low f ≡ 2 ^ rise f e * down e
rise_is f (pos k) h = mul_comm (2 ^ k) (2 ^ low f) ∙ sym (pow-add 2 (low f) k) ∙ sym (mul-one (2 ^ (low f + k)))
rise_is f (negsuc k) h =
    one-mul (2 ^ low f) ∙ ap (λ n. 2 ^ n) (back (dec_le (suc k) (low f))) ∙ pow-add 2 (low f - suc k) (suc k)
  where
    back : Dec (suc k ≤ low f) → low f ≡ low f - suc k + suc k
    back (yes l) = omega arith
    back (no n) = absurd (not-le_of_lt (pow-lt (lt_of_not-le n)) h)

module _ (f : Format) (s : Bool) (m : ℕ) (e : ℤ) (h : T (fits f (fin s m e))) where
  pub count : Units f (fin s m e) s (m * 2 ^ rise f e)
  count = (refl, mul_assoc m (up e) (2 ^ low f) ∙ ap (λ n. m * n) (rise_is f e (fitting f s m e h).fine) ∙ sym (mul_assoc m (2 ^ rise f e) (down e)))

  pub count_below : (i : ℕ) → m * up e < 2 ^ i * down e → m * 2 ^ rise f e < 2 ^ (low f + i)
  count_below i l =
      lt_of_mul-lt-mul_right (down e)
      (subst (λ n. n < 2 ^ (low f + i) * down e) count.1
      (lt_of_lt_of_le (mul-lt-mul_of_pos_right l (pow_pos (low f)))
      (le_of_eq (mul_right_comm (2 ^ i) (down e) (2 ^ low f) ∙ ap (λ n. n * down e) (mul_comm (2 ^ i) (2 ^ low f) ∙ sym (pow-add 2 (low f) i))))))

  pub count_lt : m * 2 ^ rise f e < overflow f
  count_lt = count_below (suc (emax f)) (fitting f s m e h).range

-- ---- one way to write a value: its pattern is made of its count of units

abbrev pattern : Format → Bool → ℕ → ℕ
pattern f s n = let k = size n - prec f in cond s (top f) 0 + k * hid f + n / 2 ^ k

pattern_of : (f : Format) (x : Float) (s : Bool) (a c : ℕ) → 0 < c → HasValue x s a c → to_bits f x ≡ pattern f s (a * 2 ^ low f / c)
unfolding to_bits
pattern_of f x s a c C v =
    of_value (λ y. to_bits f y ≡ pattern f s (a * 2 ^ low f / c)) s a c
    (λ m e h. ap (pattern f s) (div_same (m * up e * 2 ^ low f) (down e) (a * 2 ^ low f) c (down_pos e) C
    (mul_right_comm (m * up e) (2 ^ low f) c ∙ ap (λ n. n * 2 ^ low f) h ∙ mul_right_comm a (down e) (2 ^ low f)))) x v

pub unique : (f : Format) (x y : Float) (s : Bool) (a c : ℕ) → 0 < c → T (fits f x) → T (fits f y) → HasValue x s a c → HasValue y s a c → x ≡ y
unique f x y s a c C h k v w =
    sym (of_bits-to_bits f x h) ∙ ap (of_bits f) (pattern_of f x s a c C v ∙ sym (pattern_of f y s a c C w)) ∙ of_bits-to_bits f y k

-- ---- a fraction that equals a value of the format rounds to it

pub round_back : (f : Format) (x : Float) (s : Bool) (a c : ℕ) → 0 < c → T (fits f x) → HasValue x s a c → round f s a c ≡ x
round_back f nan s a c C h v = absurd v
round_back f (inf t) s a c C h v = absurd v
round_back f (fin t m e) s a c C h v =
    let n = m * up e in
    round_same f s a c n (down e) C (down_pos e) (sym v.1)
    ∙ unique f (round f s n (down e)) (fin t m e) s n (down e) (down_pos e) (round-fits f s n (down e)) h
    (round_exact f s n (down e) m (rise f e) (down_pos e) (fitting f t m e h).small (count_lt f t m e h) (count f t m e h).1)
    (v.0, refl)
