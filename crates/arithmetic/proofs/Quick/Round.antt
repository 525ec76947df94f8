-- lib.Ieee's `round` at binary64, computed faster: how many digits it drops is guessed and then tested, so that numbers stay short and nothing long is counted.
-- `qround_is`: whatever the guess, the result is `round`'s. Assumes nothing.
use mathlib.Core.Path.{◌≡◌, refl, sym, ap, ◌∙◌}
use Prim.Native.Nat.{ℕ, zero, suc, ◌+◌, ◌-◌, ◌*◌, ◌/◌, ◌%◌, ◌^◌, ◌≤◌, ◌<◌, min, compare}
use native.Mathlib.Nat.{le_trans, lt_of_le_of_lt, zero-lt-suc, add-zero, add-suc, suc-add, mul_assoc, mul_comm, mul_left_comm, mul-le-mul, mul-pos, pow-succ', div-one, div-zero, div-div-eq-div-mul, le-div_iff_mul-le, div-lt_iff_lt-mul}
use native.Mathlib.Omega.{arith}
use mathlib.Core.Bool.{Bool, true, false}
use borrow.Author.Tests.{lt-ltb}
use lib.IntN.{pos}
use lib.Dec.{T, leb, eqb, eqb→eq, lit<}
use lib.Count.{count_trailing_zeros, under}
use lib.Pow.{pow-add, pow_pos, pow_mono}
use lib.Ieee.{Float, fin, binary64, size, odd, units, round, nearest, minus}
use lib.Ieee.Fits.{round_is, nearest-le}
use lib.Ieee.Nearest.{closest, closest_same, div_same}
use Rattle.arithmetic.proofs.Powers.{size_is}

-- what is x where a test passes and y otherwise is z, if x is z where the test passes and y is z
pub either : {X : Type 0} (t : Bool) {x y z : X} → (T t → x ≡ z) → y ≡ z → ◌≡◌ {A = X} (elim t [ true ↦ x | false ↦ y ]) z
either true a b = a tt
either false a b = b

-- ---- `odd`, by halving only as long as the number is even

unfoldable pub strip : ℕ → Bool → ℕ → ℕ → ℕ → Float
strip zero s q k l = fin s q (minus k l)
strip (suc d) s q k l = elim (q % 2) [ zero ↦ strip d s (q / 2) (suc k) l | suc r ↦ fin s q (minus k l) ]

unfoldable pub qodd : ℕ → Bool → ℕ → ℕ → ℕ → Float
unfolding strip
qodd d s zero k l = fin s zero (pos zero)
qodd d s (suc q) k l = strip d s (suc q) k l

strip_is : (d : ℕ) (s : Bool) (q k l : ℕ) → strip d s q k l ≡ fin s (q / 2 ^ count_trailing_zeros d q) (minus (k + count_trailing_zeros d q) l)
unfolding strip count_trailing_zeros
strip_is zero s q k l = simp (div-one, add-zero)
strip_is (suc d) s q k l = go (q % 2) (strip_is d s (q / 2) (suc k) l)
  where
    t : ℕ
    t = count_trailing_zeros d (q / 2)

    go : (r : ℕ) → strip d s (q / 2) (suc k) l ≡ fin s (q / 2 / 2 ^ t) (minus (suc k + t) l)
        → ◌≡◌ {A = Float} (elim r [ zero ↦ strip d s (q / 2) (suc k) l | suc x ↦ fin s q (minus k l) ]) (fin s (q / 2 ^ under r t) (minus (k + under r t) l))
    go zero ih = ih ∙ simp (div-div-eq-div-mul, pow-succ', add-suc, suc-add)
    go (suc r) ih = simp (div-one, add-zero)

pub qodd_is : (d : ℕ) (s : Bool) (q k l : ℕ) → qodd d s q k l ≡ odd d s q k l
unfolding qodd odd
qodd_is d s zero k l = refl
qodd_is d s (suc q) k l = strip_is d s (suc q) k l

-- ---- Where num * 2 ^ j / den has 53 digits before the point, `round` drops k digits, for j + k = 1074: it counts in units of the smallest value, 2 ^ -1074.

-- w has 53 digits and k more
sized : (w k : ℕ) → w / 2 ^ k / 2 ^ 52 ≡ 1 → size w - 53 ≡ k
sized w k e =
    let lo : 2 ^ 52 ≤ w / 2 ^ k = omega arith in
    let hi : w / 2 ^ k < 2 ^ 53 = omega arith in
    let b : 2 ^ (52 + k) ≤ w = rw pow-add ((le-div_iff_mul-le (pow_pos k)).0 lo) in
    let a : w < 2 ^ suc (52 + k) = rw (← suc-add 52 k, pow-add) ((div-lt_iff_lt-mul (pow_pos k)).0 hi) in
    let c = size_is w (52 + k) b a in
    omega arith

-- what is kept is at most 2 ^ 53, so it does not overflow
units_is : (s : Bool) (q k : ℕ) → q ≤ 2 ^ 53 → k ≤ 1074 → units binary64 s q k ≡ odd 54 s q k 1074
unfolding units
units_is s q k a b = rw (lt-ltb (q * 2 ^ k) (2 ^ 2098) (lt_of_le_of_lt (mul-le-mul a (pow_mono b)) (lit< tt)))

den_pos : (n d : ℕ) → n / d / 2 ^ 52 ≡ 1 → 0 < d
den_pos n zero e = let z : ◌≡◌ {A = ℕ} 0 1 = rw div-zero at e in omega arith
den_pos n (suc d) e = zero-lt-suc d

-- so what it keeps is num * 2 ^ j / den, rounded to a whole number
exact : (s : Bool) (num den j k : ℕ) → j + k ≡ 1074 → num * 2 ^ j / den / 2 ^ 52 ≡ 1 → qodd 54 s (closest (num * 2 ^ j) den) k 1074 ≡ round binary64 s num den
exact s num den j k e h =
    let n = num * 2 ^ 1074 in
    let q = num * 2 ^ j / den in
    let D = den_pos (num * 2 ^ j) den h in
    let U = mul-pos D (pow_pos k) in
    let p : 2 ^ 1074 ≡ 2 ^ j * 2 ^ k = ap (λ (z : ℕ). 2 ^ z) (sym e) ∙ pow-add 2 j k in
    let x : n * den ≡ num * 2 ^ j * (den * 2 ^ k) = ap (λ (z : ℕ). num * z * den) p ∙ simp (mul_assoc, mul_comm, mul_left_comm) in
    let d : size (n / den) - 53 ≡ k = sized (n / den) k (ap (λ (z : ℕ). z / 2 ^ 52)
    (div-div-eq-div-mul n den (2 ^ k) ∙ div_same n (den * 2 ^ k) (num * 2 ^ j) den U D x) ∙ h) in
    let b : closest (num * 2 ^ j) den ≤ 2 ^ 53 = le_trans (nearest-le q (compare (num * 2 ^ j % den * 2) den)) (omega arith) in
    qodd_is 54 s (closest (num * 2 ^ j) den) k 1074
    ∙ sym (units_is s (closest (num * 2 ^ j) den) k b (omega arith))
    ∙ sym
    (round_is binary64 s num den
    ∙ ap (λ (z : ℕ). units binary64 s (closest n (den * 2 ^ z)) z) d
    ∙ ap (λ (z : ℕ). units binary64 s z k) (closest_same n (den * 2 ^ k) (num * 2 ^ j) den U D x))

-- ---- `round`, with d guesses from g up: that num * 2 ^ g / den has 53 digits

unfoldable pub tries : ℕ → ℕ → Bool → ℕ → ℕ → Float
unfolding qodd round
tries zero g s num den = round binary64 s num den
tries (suc d) g s num den =
    let j = min g 1074 in
    let n = num * 2 ^ j in
    let q = n / den in
    elim (eqb (q / 2 ^ 52) 1) [ true ↦ qodd 54 s (nearest q (compare (n % den * 2) den)) (1074 - j) 1074 | false ↦ tries d (suc g) s num den ]

tries_is : (d g : ℕ) (s : Bool) (num den : ℕ) → tries d g s num den ≡ round binary64 s num den
unfolding tries
tries_is zero g s num den = refl
tries_is (suc d) g s num den =
    let j = min g 1074 in
    let w = num * 2 ^ j / den / 2 ^ 52 in
    either (eqb w 1) (λ t. exact s num den j (1074 - j) (omega arith) (eqb→eq w 1 t)) (tries_is d (suc g) s num den)

-- ---- the guess

-- How many binary digits a number has, if it has a to a + 2 ^ k - 1, by halving that range. What is compared with stands before the λ, so that it is
-- computed once and not for each number.
unfoldable pub digits_from : ℕ → ℕ → ℕ → ℕ
digits_from zero a = λ n. a
digits_from (suc k) a =
    let m = a + 2 ^ k in
    let c = 2 ^ (m - 1) in
    let less = digits_from k a in
    let more = digits_from k m in
    λ n. elim (leb c n) [ true ↦ more n | false ↦ less n ]

unfoldable pub digits : ℕ → ℕ
unfolding digits_from
digits = digits_from 8 0

-- den has z + 1 digits. The first guess is right where den is a power of two, and the first or the second otherwise. For a wrong z, a very large or a
-- very small fraction none may be, and the result is still `round`'s.
unfoldable pub qround : ℕ → Bool → ℕ → ℕ → Float
unfolding tries digits
qround z s num den = tries 2 (53 + z - digits num) s num den

pub qround_is : (z : ℕ) (s : Bool) (num den : ℕ) → qround z s num den ≡ round binary64 s num den
unfolding qround
qround_is z s num den = tries_is 2 (53 + z - digits num) s num den
