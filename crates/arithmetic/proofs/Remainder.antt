-- `%` of two values of a format: in units of the smallest value it is the remainder of their counts, exactly, so it is smaller than the divisor. A
-- smaller value is its own remainder. Assumes nothing.
use mathlib.Core.Path.{◌≡◌, refl, sym, ap, ◌∙◌}
use Prim.Native.Nat.{ℕ, zero, suc, ◌+◌, ◌-◌, ◌*◌, ◌/◌, ◌%◌, ◌^◌, ◌≤◌, ◌<◌, zero-le}
use native.Mathlib.Nat.{le_of_lt, lt_of_lt_of_le, lt_of_le_of_lt, lt_irrefl, add-mul, mul_comm, mul_assoc, mul_right_comm, mul-lt-mul_of_pos_right, mul-pos, mod-lt, mod-le, mod-eq_of_lt, div-add-mod'}
use native.Mathlib.Decide.{dec_le}
use native.Mathlib.Omega.{arith}
use mathlib.Core.Bool.{Bool, cond}
use lib.IntN.{ℤ}
use lib.Dec.{T, eqb-suc-zero}
use lib.Arith.{digits_mod}
use lib.Pow.{pow_pos}
use lib.Ieee.{nan, fin, Format, prec, low, up, down, round, rem, fits}
use lib.Ieee.Exact.{round_exact}
use lib.Ieee.Fits.{up_pos, down_pos}
use lib.Ieee.Positive.{first_pos}
use lib.Ieee.Scale.{round_same}
use Rattle.arithmetic.proofs.Powers.{apart}
use Rattle.arithmetic.proofs.Units.{rise, Units, fitting, count, count_lt, round_back}

-- ---- `%` of whole numbers

pub mod_scale : (a b c : ℕ) → 0 < b → 0 < c → a * c % (b * c) ≡ a % b * c
mod_scale a b c B C =
    ap (λ n. n % (b * c)) (ap (λ n. n * c) (sym (div-add-mod' a b)) ∙ add-mul (a / b * b) (a % b) c ∙ ap (λ n. n + a % b * c) (mul_assoc (a / b) b c))
    ∙ digits_mod (a / b) (mul-lt-mul_of_pos_right (mod-lt a B) C)

-- q * 2 ^ j, with q below 2 ^ p
record Short (p a : ℕ) : Type 0 where
  digits : ℕ
  zeros : ℕ
  small : digits < 2 ^ p
  is : a ≡ digits * 2 ^ zeros

-- what m * 2 ^ j leaves by n * 2 ^ k has no more digits than one of m and n
mod_short : (p m j n k : ℕ) → m < 2 ^ p → n < 2 ^ p → 0 < n → Short p (m * 2 ^ j % (n * 2 ^ k))
mod_short p m j n k mh nh N = go (dec_le k j)
  where
    go : Dec (k ≤ j) → Short p (m * 2 ^ j % (n * 2 ^ k))
    go (yes g) =
        let w = m * 2 ^ (j - k) in
        record {
          digits = w % n;
          zeros = k;
          small = lt_of_lt_of_le (mod-lt w N) (le_of_lt nh);
          is =
              ap (λ x. x % (n * 2 ^ k)) (apart m j (j - k) k (omega arith)) ∙ mod_scale w n (2 ^ k) N (pow_pos k);
        }
    go (no g) =
        let w = n * 2 ^ (k - j) in
        record {
          digits = m % w;
          zeros = j;
          small = lt_of_le_of_lt (mod-le m w) mh;
          is = ap (λ x. m * 2 ^ j % x) (apart n k (k - j) j (omega arith)) ∙ mod_scale m w (2 ^ j) (mul-pos N (pow_pos (k - j))) (pow_pos j);
        }

-- ---- `%` of values

pub rem_is : (f : Format) (s : Bool) (m : ℕ) (e : ℤ) (t : Bool) (n : ℕ) (d : ℤ) → 0 < n
    → rem f (fin s m e) (fin t n d) ≡ round f s (m * up e * down d % (n * up d * down e)) (down e * down d)
unfolding rem
rem_is f s m e t zero d N = absurd (lt_irrefl 0 N)
rem_is f s m e t (suc n) d N = ap (λ b. cond b nan (round f s (m * up e * down d % (suc n * up d * down e)) (down e * down d))) (eqb-suc-zero n)

pub rem_below : (f : Format) (s : Bool) (m : ℕ) (e : ℤ) (t : Bool) (n : ℕ) (d : ℤ) → T (fits f (fin s m e)) → m * up e * down d < n * up d * down e
    → rem f (fin s m e) (fin t n d) ≡ fin s m e
rem_below f s m e t n d h l =
    rem_is f s m e t n d (first_pos n (up d) (first_pos (n * up d) (down e) (lt_of_le_of_lt zero-le l)))
    ∙ ap (λ r. round f s r (down e * down d)) (mod-eq_of_lt l)
    ∙ round_back f (fin s m e) s (m * up e * down d) (down e * down d) (mul-pos (down_pos e) (down_pos d)) h
    (refl, ap (λ r. m * up e * r) (mul_comm (down e) (down d)) ∙ sym (mul_assoc (m * up e) (down d) (down e)))

module _ (f : Format) (s : Bool) (m : ℕ) (e : ℤ) (t : Bool) (n : ℕ) (d : ℤ) (h : T (fits f (fin s m e))) (k : T (fits f (fin t n d))) (N : 0 < n) where
  pub rem_exact : Units f (rem f (fin s m e) (fin t n d)) s (m * 2 ^ rise f e % (n * 2 ^ rise f d))
  rem_exact =
      let a = m * 2 ^ rise f e in
      let b = n * 2 ^ rise f d in
      let A = m * up e * down d in
      let B = n * up d * down e in
      let C = down e * down d in
      let l = 2 ^ low f in
      let CP : 0 < C = mul-pos (down_pos e) (down_pos d) in
      let ea : A * l ≡ a * C = mul_right_comm (m * up e) (down d) l ∙ ap (λ x. x * down d) (count f s m e h).1 ∙ mul_assoc a (down e) (down d) in
      let eb : B * l ≡ b * C = mul_right_comm (n * up d) (down e) l ∙ ap (λ x. x * down e) (count f t n d k).1 ∙ mul_assoc b (down d) (down e)
      ∙ ap (λ x. b * x) (mul_comm (down d) (down e)) in
      let BP : 0 < B = mul-pos (mul-pos N (up_pos d)) (down_pos e) in
      let er : A % B * l ≡ a % b * C = sym (mod_scale A B l BP (pow_pos (low f))) ∙ ap (λ x. x % (B * l)) ea ∙ ap (λ x. a * C % x) eb
      ∙ mod_scale a b C (mul-pos N (pow_pos (rise f d))) CP in
      let q = mod_short (prec f) m (rise f e) n (rise f d) (fitting f s m e h).small (fitting f t n d k).small N in
      rw (rem_is f s m e t n d N, round_same f s (A % B) C (a % b) l CP (pow_pos (low f)) er)
      (round_exact f s (a % b) l q.digits q.zeros (pow_pos (low f)) q.small (rw (← q.is) (lt_of_le_of_lt (mod-le a b) (count_lt f s m e h)))
      (ap (λ x. x * l) q.is))
