-- How `round` treats any fraction: the sign goes through it, no value of the format that is at least as large is passed, and a value doubled is
-- exact. Assumes nothing.
use mathlib.Core.Path.{◌≡◌, refl, sym, ap, ◌∙◌, subst}
use Prim.Native.Nat.compare
use Prim.Native.Nat.{ℕ, zero, suc, ◌+◌, ◌-◌, ◌*◌, ◌/◌, ◌^◌, ◌≤◌, ◌<◌}
use native.Mathlib.Nat.{le_trans, le_of_eq, lt_of_lt_of_le, lt_of_le_of_lt, lt_irrefl, mul_comm, mul_assoc, mul_left_comm, pow-succ', add-suc, mul-le-mul_right, mul-lt-mul_of_pos_right, mul-pos, mul-div_cancel, mul-mod_left, le-div_iff_mul-le}
use native.Mathlib.Decide.{dec_le}
use native.Mathlib.Omega.{arith}
use mathlib.Core.Bool.{Bool, true, false, not, cond}
use lib.IntN.{ℤ}
use lib.Dec.{T, ltb}
use lib.Pow.{pow_pos, shl_lt}
use lib.Ieee.{Float, inf, fin, Format, prec, emax, low, up, down, odd, units, round, neg, sum, add, fits}
use lib.Ieee.Digits.{size_reaches}
use lib.Ieee.Exact.{HasValue, units_val, round_exact}
use lib.Ieee.Fits.{round_is, down_pos}
use lib.Ieee.Nearest.{closest, closest_mono}
use lib.Ieee.Order.{drop, kept}
use lib.Ieee.Scale.{round_same, grid, overflow}
use Rattle.arithmetic.proofs.Powers.{apart}
use Rattle.arithmetic.proofs.Units.{rise, Units, fitting, count, count_below}

-- ---- the sign

neg_odd : (d : ℕ) (s : Bool) (q k l : ℕ) → neg (odd d s q k l) ≡ odd d (not s) q k l
unfolding neg odd
neg_odd d s zero k l = refl
neg_odd d s (suc q) k l = refl

neg_units : (f : Format) (s : Bool) (q k : ℕ) → neg (units f s q k) ≡ units f (not s) q k
unfolding units neg
neg_units f s q k = go (ltb (q * 2 ^ k) (overflow f))
  where
    go : (b : Bool) → neg (cond b (odd (suc (prec f)) s q k (low f)) (inf s)) ≡ cond b (odd (suc (prec f)) (not s) q k (low f)) (inf (not s))
    go true = neg_odd (suc (prec f)) s q k (low f)
    go false = refl

pub neg_round : (f : Format) (s : Bool) (a c : ℕ) → neg (round f s a c) ≡ round f (not s) a c
neg_round f s a c = ap neg (round_is f s a c) ∙ neg_units f s (kept (prec f) (a * 2 ^ low f) c) (drop (prec f) (a * 2 ^ low f) c) ∙ sym (round_is f (not s) a c)

-- ---- a bound: q * 2 ^ j units, for a q that has no more digits than the format keeps

closest_self : (w u : ℕ) → 0 < u → closest (w * u) u ≡ w
closest_self w zero p = absurd (lt_irrefl 0 p)
closest_self w (suc u) p = rw (mul-div_cancel w p, mul-mod_left w (suc u), compare.zero-suc u)

grid_le : (p n c q j : ℕ) → 0 < c → q < 2 ^ p → n ≤ q * 2 ^ j * c → kept p n c * 2 ^ drop p n c ≤ q * 2 ^ j
grid_le p n c q j C qh h = go (dec_le (drop p n c) j)
  where
    k : ℕ
    k = drop p n c

    go : Dec (k ≤ j) → kept p n c * 2 ^ k ≤ q * 2 ^ j
    go (yes g) =
        let w = q * 2 ^ (j - k) in
        let u = c * 2 ^ k in
        let f : q * 2 ^ j ≡ w * 2 ^ k = apart q j (j - k) k (omega arith) in
        let l : n ≤ w * u = le_trans h (le_of_eq (ap (λ i. i * c) f ∙ mul_assoc w (2 ^ k) c ∙ ap (λ i. w * i) (mul_comm (2 ^ k) c))) in
        let U : 0 < u = mul-pos C (pow_pos k) in
        rw f (mul-le-mul_right (2 ^ k) (le_trans (closest_mono n u (w * u) u U U (mul-le-mul_right u l)) (le_of_eq (closest_self w u U))))
    go (no g) =
        let r : 2 ^ (p + j) ≤ n / c = size_reaches (n / c) (p + j) (omega arith) in
        absurd (lt_irrefl n (lt_of_le_of_lt h (lt_of_lt_of_le (mul-lt-mul_of_pos_right (shl_lt p j qh) C) ((le-div_iff_mul-le C).0 r))))

-- at most n units, with the sign s
pub record AtMost (f : Format) (x : Float) (s : Bool) (n : ℕ) : Type 0 where
  pub units : ℕ
  pub is : Units f x s units
  pub most : units ≤ n

pub round_most : (f : Format) (s : Bool) (a c q j : ℕ) → 0 < c → q < 2 ^ prec f → q * 2 ^ j < overflow f → a * 2 ^ low f ≤ q * 2 ^ j * c
    → AtMost f (round f s a c) s (q * 2 ^ j)
round_most f s a c q j C qh oh h =
    let l : grid f a c ≤ q * 2 ^ j = grid_le (prec f) (a * 2 ^ low f) c q j C qh h in
    record {
      units = grid f a c;
      is = rw (round_is f s a c) (units_val f s (kept (prec f) (a * 2 ^ low f) c) (drop (prec f) (a * 2 ^ low f) c) (lt_of_le_of_lt l oh));
      most = l;
    }

-- ---- twice a value that stays in range

twice_lt : (a b : ℕ) → a < b → 2 * a < 2 * b
twice_lt a b h = omega arith

double_is : (f : Format) (s : Bool) (A C : ℕ) → sum f s A s A C ≡ round f s (A + A) C
unfolding sum
double_is f true A C = refl
double_is f false A C = refl

pub double_exact : (f : Format) (s : Bool) (m : ℕ) (e : ℤ) → T (fits f (fin s m e)) → m * up e < 2 ^ emax f * down e
    → HasValue (add f (fin s m e) (fin s m e)) s (2 * (m * up e)) (down e)
unfolding add
double_exact f s m e h l =
    let n = m * up e in
    let d = down e in
    let r = m * 2 ^ rise f e in
    let j : m * 2 ^ suc (rise f e) ≡ 2 * r = ap (λ i. m * i) (pow-succ' 2 (rise f e)) ∙ mul_left_comm m 2 (2 ^ rise f e) in
    let v : 2 * n * 2 ^ low f ≡ m * 2 ^ suc (rise f e) * d = mul_assoc 2 n (2 ^ low f) ∙ ap (λ i. 2 * i) (count f s m e h).1 ∙ sym (mul_assoc 2 r d)
    ∙ ap (λ i. i * d) (sym j) in
    let w : (n * d + n * d) * d ≡ 2 * n * (d * d) = omega arith in
    subst (λ x. HasValue x s (2 * n) d)
    (sym (double_is f s (n * d) (d * d) ∙ round_same f s (n * d + n * d) (d * d) (2 * n) d (mul-pos (down_pos e) (down_pos e)) (down_pos e) w))
    (round_exact f s (2 * n) d m (suc (rise f e)) (down_pos e) (fitting f s m e h).small
    (subst (λ i. i < overflow f) (sym j) (subst (λ i. 2 * r < i)
    (sym (ap (λ i. 2 ^ i) (add-suc (low f) (emax f)) ∙ pow-succ' 2 (low f + emax f)))
    (twice_lt r (2 ^ (low f + emax f)) (count_below f s m e h (emax f) l)))) v)
