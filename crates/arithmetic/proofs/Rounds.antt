-- The rounds of the root's digits: they are the least count of digits that are the exact root, at most 27, or 53 where there is no exact
-- root (`rounds_least`), and 0 for all else (`rounds_elsewhere`). `square_rounds` and `no_square_rounds` are what the loop is held to: they
-- read the rounds off the number of full width. Assumes nothing.
use mathlib.Core.Path.{◌≡◌, refl, sym, ap, ◌∙◌, subst}
use mathlib.Core.Logic.{inl, inr}
use mathlib.Core.Bool.{Bool, true, false, ◌&&◌, cond, true≢false}
use Prim.Native.Nat.{ℕ, zero, suc, ◌+◌, ◌-◌, ◌*◌, ◌/◌, ◌%◌, ◌^◌, ◌≤◌, ◌<◌}
use native.Mathlib.Nat.{le_antisymm, le_trans, le_of_eq, lt_of_lt_of_le, lt_of_le_of_lt, lt_irrefl, zero-lt-suc, mul-one, mul-pos, mul-le-mul_left, pow-succ'}
use native.Mathlib.Omega.{arith}
use borrow.Author.Tests.{lt-ltb, eq-eqb, eqb-true, eqb-false}
use lib.IntN.{ℤ, pos, negsuc}
use lib.Dec.{T, eqb, ltb, leb, eqb→eq, lit<}
use lib.Pow.{pow-add, pow_pos}
use lib.Ieee.{Float, nan, inf, fin, binary64, up, down, span, climb, size, fits}
use lib.Ieee.Digits.{size-lt, size-le}
use lib.Ieee.Fits.{up_pos, and_l}
use lib.Ieee.Positive.{positive}
use Rattle.arithmetic.specs.Rounds.{ExactWith, LeastDigits, exact_digits, sqrt_rounds}
use Rattle.arithmetic.specs.Sqrt.{root_from, height}
use Rattle.arithmetic.proofs.Count.{not_zero}
use Rattle.arithmetic.proofs.Powers.{power_le}
use Rattle.arithmetic.proofs.Root.{Floor, lt_of_squares, floor_unique, root_floor}
use Rattle.arithmetic.proofs.Units.{fitting}
use Rattle.arithmetic.proofs.Width.{Wide, scaled, short, wide_form}

-- ---- an odd number times a power of two

pub odd_unique : (u v i j : ℕ) → u % 2 ≡ 1 → v % 2 ≡ 1 → u * 2 ^ i ≡ v * 2 ^ j → (u ≡ v) × (i ≡ j)
odd_unique u v zero zero ou ov h = (omega arith, refl)
odd_unique u v zero (suc j) ou ov h = absurd (even (2 ^ j) (h ∙ ap (λ (x : ℕ). v * x) (pow-succ' 2 j)))
  where
    even : (p : ℕ) → u * 1 ≡ v * (2 * p) → ⊥
    even p e = omega arith
odd_unique u v (suc i) zero ou ov h = absurd (even (2 ^ i) (ap (λ (x : ℕ). u * x) (sym (pow-succ' 2 i)) ∙ h))
  where
    even : (p : ℕ) → u * (2 * p) ≡ v * 1 → ⊥
    even p e = omega arith
odd_unique u v (suc i) (suc j) ou ov h =
    let r = odd_unique u v i j ou ov (halved (2 ^ i) (2 ^ j) (ap (λ (x : ℕ). u * x) (sym (pow-succ' 2 i)) ∙ h ∙ ap (λ (x : ℕ). v * x) (pow-succ' 2 j))) in
    (r.0, ap suc r.1)
  where
    halved : (p q : ℕ) → u * (2 * p) ≡ v * (2 * q) → u * p ≡ v * q
    halved p q e = omega arith

pub record OddPart (q : ℕ) : Type 0 where
  pub u : ℕ
  pub i : ℕ
  pub is_odd : u % 2 ≡ 1
  pub is : q ≡ u * 2 ^ i

odd_part : (d q : ℕ) → 0 < q → q < 2 ^ d → OddPart q
odd_part zero q p h = absurd (omega arith)
odd_part (suc d) q p h = by (eqb (q % 2) 1) refl (odd_part d (q / 2))
  where
    twice : (u p : ℕ) → q % 2 ≡ 0 → q / 2 ≡ u * p → q ≡ u * (2 * p)
    twice u p r e = omega arith

    by : (b : Bool) → eqb (q % 2) 1 ≡ b → (0 < q / 2 → q / 2 < 2 ^ d → OddPart (q / 2)) → OddPart q
    by true e rest = record { u = q; i = 0; is_odd = eqb-true (q % 2) 1 e; is = omega arith }
    by false e rest =
        let l : q < 2 * 2 ^ d = subst (λ (x : ℕ). q < x) (pow-succ' 2 d) h in
        let r : q % 2 ≡ 0 = omega (arith, eqb-false (q % 2) 1 e) in
        let o = rest (omega arith) (omega arith) in
        record { u = o.u; i = suc o.i; is_odd = o.is_odd; is = twice o.u (2 ^ o.i) r o.is ∙ ap (λ (x : ℕ). o.u * x) (sym (pow-succ' 2 o.i)) }

odd_square : (u : ℕ) → u % 2 ≡ 1 → u * u % 2 ≡ 1
odd_square u o = let e : u ≡ 2 * (u / 2) + 1 = omega arith in rw e (of_half (u / 2))
  where
    of_half : (c : ℕ) → (2 * c + 1) * (2 * c + 1) % 2 ≡ 1
    of_half c = omega arith

-- ---- `exact_digits`

pub exact_floor : (r m : ℕ) → r * r ≡ m → Floor m r
exact_floor r m e = (omega arith, omega arith)

module _ (m h : ℕ) (small : m < 2 ^ 27 * 2 ^ 27) where
  exact : (r : ℕ) → r * r ≡ m → h % 2 ≡ 0 → exact_digits m h ≡ size r
  unfolding exact_digits
  exact r s e =
      ap (λ (r : ℕ). cond (eqb (r * r) m && eqb (h % 2) 0) (size r) 53) (floor_unique m (root_from 27 m 0) r (root_floor 27 m small) (exact_floor r m s))
      ∙ ap (λ (b : Bool). cond (b && eqb (h % 2) 0) (size r) 53) (eq-eqb (r * r) m s)
      ∙ ap (λ (b : Bool). cond b (size r) 53) (eq-eqb (h % 2) 0 e)

  inexact : ((r : ℕ) → r * r ≡ m → h % 2 ≡ 0 → ⊥) → exact_digits m h ≡ 53
  unfolding exact_digits
  inexact none = by (eqb (r * r) m) (eqb (h % 2) 0) refl refl
    where
      r : ℕ
      r = root_from 27 m 0

      by : (b c : Bool) → eqb (r * r) m ≡ b → eqb (h % 2) 0 ≡ c → cond (b && c) (size r) 53 ≡ 53
      by true true s e = absurd (none r (eqb-true (r * r) m s) (eqb-true (h % 2) 0 e))
      by true false s e = refl
      by false c s e = refl

-- ---- what fits is written with an odd m

odd_digits : (s : Bool) (m : ℕ) (e : ℤ) → T (fits binary64 (fin s (suc m) e)) → suc m % 2 ≡ 1
unfolding fits
odd_digits s m e h =
    let a : Bool = eqb (suc m % 2) 1 in
    let b : Bool = ltb (suc m) (2 ^ 53) in
    let c : Bool = leb (down e) (2 ^ 1074) in
    let d : Bool = ltb (suc m * up e) (2 ^ 1024 * down e) in
    eqb→eq (suc m % 2) 1 (and_l a b (and_l (a && b) c (and_l (a && b && c) d h)))

-- ---- the rounds, by the number of full width whose root's digits are found

module _ (m : ℕ) (e : ℤ) (f : T (fits binary64 (fin false (suc m) e))) (a g : ℕ) (w : Wide (fin false (suc m) e) a g) where
  -- how many places the number stands above m
  abbrev s : ℕ
  s = short (suc m) + g % 2 + 52

  small : suc m < 2 ^ 27 * 2 ^ 27
  small = omega (arith, (fitting binary64 false (suc m) e f).small)

  full : scaled a g ≡ suc m * 2 ^ s
  full = ap (λ (x : ℕ). x * 2 ^ (g % 2) * 2 ^ 52) (sym (wide_form m e a g f w).0) ∙ regroup (suc m) (short (suc m)) (g % 2)
    where
      regroup : (n z r : ℕ) → n * 2 ^ z * 2 ^ r * 2 ^ 52 ≡ n * 2 ^ (z + r + 52)
      regroup n z r = rw (pow-add, pow-add) (omega arith)

  parity : s % 2 ≡ height e % 2
  parity = omega (arith, (wide_form m e a g f w).1, short_le (size (suc m)) (size-lt (suc m)))
    where
      short_le : (k : ℕ) → suc m < 2 ^ k → 53 - k ≤ 52
      short_le zero h = absurd (omega arith)
      short_le (suc k) h = omega arith

  fin_square : (u i : ℕ) → u % 2 ≡ 1 → scaled a g ≡ u * 2 ^ i * (u * 2 ^ i) → sqrt_rounds (fin false (suc m) e) ≡ size u
  unfolding sqrt_rounds
  fin_square u i o q =
      let r = odd_unique (suc m) (u * u) s (i + i) (odd_digits false m e f) (odd_square u o) (sym full ∙ q ∙ regroup u i) in
      exact (suc m) (height e) small u (sym r.0) (omega (arith, parity, r.1))
    where
      regroup : (u i : ℕ) → u * 2 ^ i * (u * 2 ^ i) ≡ u * u * 2 ^ (i + i)
      regroup u i = rw pow-add (omega arith)

  fin_no_square : ((q : ℕ) → q * q ≡ scaled a g → ⊥) → sqrt_rounds (fin false (suc m) e) ≡ 53
  unfolding sqrt_rounds
  fin_no_square none = inexact (suc m) (height e) small (λ r q h. none (r * 2 ^ (s / 2)) (square r q (omega (arith, parity, h))))
    where
      regroup : (r i : ℕ) → r * 2 ^ i * (r * 2 ^ i) ≡ r * r * 2 ^ (i + i)
      regroup r i = rw pow-add (omega arith)

      square : (r : ℕ) → r * r ≡ suc m → s / 2 + s / 2 ≡ s → r * 2 ^ (s / 2) * (r * 2 ^ (s / 2)) ≡ scaled a g
      square r q h = regroup r (s / 2) ∙ ap (λ (x : ℕ). x * 2 ^ (s / 2 + s / 2)) q ∙ ap (λ (x : ℕ). suc m * 2 ^ x) h ∙ sym full

module _ (x : Float) (f : T (fits binary64 x)) (a g : ℕ) (w : Wide x a g) where
  of_digits : (P : Float → Type 0)
      → ((m : ℕ) (e : ℤ) → T (fits binary64 (fin false (suc m) e)) → Wide (fin false (suc m) e) a g → P (fin false (suc m) e)) → P x
  of_digits P is = by x f w
    where
      by : (x : Float) → T (fits binary64 x) → Wide x a g → P x
      by nan f w = absurd w.value
      by (inf s) f w = absurd w.value
      by (fin s zero e) f w = absurd (not_zero s e false (a * 2 ^ g) (2 ^ 1126) (mul-pos (lt_of_lt_of_le (lit< tt) w.lo) (pow_pos g)) w.value)
      by (fin true (suc m) e) f w = absurd (true≢false w.value.0)
      by (fin false (suc m) e) f w = is m e f w

  -- the number is a square: its root's digits from the first 1 to the last
  pub square_rounds : (u i : ℕ) → u % 2 ≡ 1 → scaled a g ≡ u * 2 ^ i * (u * 2 ^ i) → sqrt_rounds x ≡ size u
  square_rounds u i o q = of_digits (λ x. sqrt_rounds x ≡ size u) (λ m e f w. fin_square m e f a g w u i o q)

  pub no_square_rounds : ((q : ℕ) → q * q ≡ scaled a g → ⊥) → sqrt_rounds x ≡ 53
  no_square_rounds none = of_digits (λ x. sqrt_rounds x ≡ 53) (λ m e f w. fin_no_square m e f a g w none)

-- ---- the least count of digits

-- (q * 2 ^ (j - l)) ^ 2 is m * 2 ^ e: m is the square of q's odd part, and e is even
apart_square : (m : ℕ) (e : ℤ) → T (fits binary64 (fin false (suc m) e)) → (d : ℕ) → ExactWith (fin false (suc m) e) d
    → (u : ℕ) × (u * u ≡ suc m) × (height e % 2 ≡ 0) × (u < 2 ^ d)
apart_square m e f d x =
    let o = odd_part d x.q (some x.q x.square.1) x.digits in
    let by-u = subst (λ (q : ℕ). suc m * up e * (2 ^ x.l * 2 ^ x.l) ≡ q * 2 ^ x.j * (q * 2 ^ x.j) * down e) o.is x.square.1 in
    by e f o.u o.i o.is_odd by-u (lt_of_le_of_lt (part o.u (2 ^ o.i) (pow_pos o.i) o.is) x.digits)
  where
    some : (q : ℕ) → suc m * up e * (2 ^ x.l * 2 ^ x.l) ≡ q * 2 ^ x.j * (q * 2 ^ x.j) * down e → 0 < q
    some zero h =
        let left-pos = mul-pos (mul-pos (zero-lt-suc m) (up_pos e)) (mul-pos (pow_pos x.l) (pow_pos x.l)) in
        absurd (lt_irrefl 0 (subst (λ (n : ℕ). 0 < n) (h ∙ nothing (2 ^ x.j) (down e)) left-pos))
      where
        nothing : (p c : ℕ) → 0 * p * (0 * p) * c ≡ 0
        nothing p c = omega arith
    some (suc q) h = zero-lt-suc q

    part : (u p : ℕ) → 0 < p → x.q ≡ u * p → u ≤ x.q
    part u p h q = le_trans (le_of_eq (sym (mul-one u))) (le_trans (mul-le-mul_left u h) (le_of_eq (sym q)))

    odd_m : suc m % 2 ≡ 1
    odd_m = odd_digits false m e f

    by : (e : ℤ) → T (fits binary64 (fin false (suc m) e)) → (u i : ℕ) → u % 2 ≡ 1
        → suc m * up e * (2 ^ x.l * 2 ^ x.l) ≡ u * 2 ^ i * 2 ^ x.j * (u * 2 ^ i * 2 ^ x.j) * down e
        → u < 2 ^ d → (u : ℕ) × (u * u ≡ suc m) × (height e % 2 ≡ 0) × (u < 2 ^ d)
    by (pos k) g u i o h b =
        let same = left (suc m) k x.l ∙ h ∙ right u i x.j in
        let r = odd_unique (suc m) (u * u) (k + (x.l + x.l)) (i + x.j + (i + x.j)) odd_m (odd_square u o) same in
        (u, sym r.0, omega (arith, r.1), b)
      where
        left : (n k l : ℕ) → n * 2 ^ (k + (l + l)) ≡ n * 2 ^ k * (2 ^ l * 2 ^ l)
        left n k l = rw (pow-add, pow-add) (omega arith)

        right : (u i j : ℕ) → u * 2 ^ i * 2 ^ j * (u * 2 ^ i * 2 ^ j) * 1 ≡ u * u * 2 ^ (i + j + (i + j))
        right u i j = rw (pow-add, pow-add) (omega arith)
    by (negsuc k) g u i o h b =
        let same = left (suc m) x.l ∙ h ∙ right u i x.j (suc k) in
        let r = odd_unique (suc m) (u * u) (x.l + x.l) (i + x.j + (i + x.j) + suc k) odd_m (odd_square u o) same in
        (u, sym r.0, omega (arith, r.1, fine), b)
      where
        left : (n l : ℕ) → n * 2 ^ (l + l) ≡ n * 1 * (2 ^ l * 2 ^ l)
        left n l = rw pow-add (omega arith)

        right : (u i j k : ℕ) → u * 2 ^ i * 2 ^ j * (u * 2 ^ i * 2 ^ j) * 2 ^ k ≡ u * u * 2 ^ (i + j + (i + j) + k)
        right u i j k = rw (pow-add, pow-add, pow-add) (omega arith)

        fine : k < 1074
        fine = power_le (suc k) 1074 (fitting binary64 false (suc m) (negsuc k) g).fine

-- and where m is a square and e even, the root is r * 2 ^ (e / 2)
squared : (m : ℕ) (e : ℤ) → T (fits binary64 (fin false (suc m) e)) → (r d : ℕ) → r * r ≡ suc m → height e % 2 ≡ 0 → r < 2 ^ d
    → ExactWith (fin false (suc m) e) d
squared m (pos k) f r d q h b =
    record { q = r; j = k / 2; l = 0; digits = b; square = (refl, ap (λ (n : ℕ). n * 2 ^ k * (1 * 1)) (sym q) ∙ regroup r k (k / 2) (omega arith)) }
  where
    regroup : (r k i : ℕ) → k ≡ i + i → r * r * 2 ^ k * (1 * 1) ≡ r * 2 ^ i * (r * 2 ^ i) * 1
    regroup r k i e = rw (e, pow-add) (omega arith)
squared m (negsuc k) f r d q h b =
    let fine : k < 1074 = power_le (suc k) 1074 (fitting binary64 false (suc m) (negsuc k) f).fine in
    let i = suc k / 2 in
    record { q = r; j = 0; l = i; digits = b; square = (refl, ap (λ (n : ℕ). n * 1 * (2 ^ i * 2 ^ i)) (sym q) ∙ regroup r (suc k) i (omega arith)) }
  where
    regroup : (r k i : ℕ) → k ≡ i + i → r * r * 1 * (2 ^ i * 2 ^ i) ≡ r * 1 * (r * 1) * 2 ^ k
    regroup r k i e = rw (e, pow-add) (omega arith)

fin_least : (m : ℕ) (e : ℤ) → T (fits binary64 (fin false (suc m) e)) → LeastDigits (fin false (suc m) e) (exact_digits (suc m) (height e))
unfolding exact_digits
fin_least m e f = by r (eqb (r * r) (suc m)) (eqb (height e % 2) 0) refl refl refl
  where
    r : ℕ
    r = root_from 27 (suc m) 0

    small : suc m < 2 ^ 27 * 2 ^ 27
    small = omega (arith, (fitting binary64 false (suc m) e f).small)

    fewer : (r d : ℕ) → r * r ≡ suc m → ExactWith (fin false (suc m) e) d → size r ≤ d
    fewer r d q x =
        let a = apart_square m e f d x in
        let same : r ≡ a.0 = floor_unique (suc m) r a.0 (exact_floor r (suc m) q) (exact_floor a.0 (suc m) a.1) in
        size-le r d (subst (λ (u : ℕ). u < 2 ^ d) (sym same) a.3)

    by : (r : ℕ) (b c : Bool) → r ≡ root_from 27 (suc m) 0 → eqb (r * r) (suc m) ≡ b → eqb (height e % 2) 0 ≡ c
        → LeastDigits (fin false (suc m) e) (cond (b && c) (size r) 53)
    by r true true i s h =
        let q = eqb-true (r * r) (suc m) s in
        inl (
          squared m e f r (size r) q (eqb-true (height e % 2) 0 h) (size-lt r),
          λ d x. fewer r d q x,
        )
    by r true false i s h = inr (refl, λ d x. eqb-false (height e % 2) 0 h (apart_square m e f d x).2)
    by r false c i s h = inr (refl, λ d x. let a = apart_square m e f d x in eqb-false (r * r) (suc m) s (whole a.0 a.1))
      where
        whole : (u : ℕ) → u * u ≡ suc m → r * r ≡ suc m
        whole u q = ap (λ (x : ℕ). x * x) (i ∙ floor_unique (suc m) (root_from 27 (suc m) 0) u (root_floor 27 (suc m) small) (exact_floor u (suc m) q)) ∙ q

-- the rounds of every finite value above zero
pub rounds_least : (x : Float) → T (fits binary64 x) → T (positive x) → LeastDigits x (sqrt_rounds x)
unfolding sqrt_rounds
rounds_least nan f p = absurd p
rounds_least (inf s) f p = absurd p
rounds_least (fin true m e) f p = absurd p
rounds_least (fin false zero e) f p = absurd p
rounds_least (fin false (suc m) e) f p = fin_least m e f

-- and of every other value
pub rounds_elsewhere : (x : Float) → positive x ≡ false → sqrt_rounds x ≡ 0
unfolding sqrt_rounds
rounds_elsewhere nan p = refl
rounds_elsewhere (inf s) p = refl
rounds_elsewhere (fin true zero e) p = refl
rounds_elsewhere (fin true (suc m) e) p = refl
rounds_elsewhere (fin false zero e) p = refl
rounds_elsewhere (fin false (suc m) e) p = absurd (true≢false (sym (lt-ltb 0 (suc m) (zero-lt-suc m)) ∙ p))

-- no other count is the least
pub least_unique : (x : Float) (j k : ℕ) → LeastDigits x j → LeastDigits x k → j ≡ k
least_unique x j k (inl a) (inl b) = le_antisymm (a.1 k b.0) (b.1 j a.0)
least_unique x j k (inl a) (inr b) = absurd (b.1 j a.0)
least_unique x j k (inr a) (inl b) = absurd (a.1 k b.0)
least_unique x j k (inr a) (inr b) = a.0 ∙ sym b.0

-- where there is an exact root, the rounds are at most 27
pub exact_few : (x : Float) → T (fits binary64 x) → T (positive x) → (d : ℕ) → ExactWith x d → sqrt_rounds x ≤ 27
unfolding sqrt_rounds
exact_few nan f p d x = absurd p
exact_few (inf s) f p d x = absurd p
exact_few (fin true m e) f p d x = absurd p
exact_few (fin false zero e) f p d x = absurd p
exact_few (fin false (suc m) e) f p d x =
    let a = apart_square m e f d x in
    let small : suc m < 2 ^ 27 * 2 ^ 27 = omega (arith, (fitting binary64 false (suc m) e f).small) in
    let below : a.0 < 2 ^ 27 = lt_of_squares a.0 (2 ^ 27) (subst (λ (n : ℕ). n < 2 ^ 27 * 2 ^ 27) (sym a.1) small) in
    le_trans (le_of_eq (exact (suc m) (height e) small a.0 a.1 a.2)) (size-le a.0 27 below)

-- so 53 says that there is no exact root, and nothing else
pub rounds_53 : (x : Float) → T (fits binary64 x) → sqrt_rounds x ≡ 53 → (d : ℕ) → ExactWith x d → ⊥
rounds_53 x f e d r = by (positive x) refl
  where
    by : (b : Bool) → positive x ≡ b → ⊥
    by true p = absurd (omega (arith, exact_few x f (rw p tt) d r))
    by false p = absurd (omega (arith, rounds_elsewhere x p))

-- ---- the paper's samples: 4 takes 1, 9 takes 2, 2 takes 53; the smallest value, 2 ^ -1074, takes 1; zeros, negative numbers, infinities and NaN take none

pub rounds_samples :
    (sqrt_rounds (fin false 1 (pos 2)) ≡ 1)
    × (sqrt_rounds (fin false 9 (pos 0)) ≡ 2)
    × (sqrt_rounds (fin false 1 (pos 1)) ≡ 53)
    × (sqrt_rounds (fin false 1 (negsuc 1073)) ≡ 1)
    × (sqrt_rounds (fin false 3 (pos 0)) ≡ 53)
    × (sqrt_rounds (fin false 9007199136250225 (pos 0)) ≡ 27)
    × (sqrt_rounds (fin false 9007199136250227 (pos 0)) ≡ 53)
    × (sqrt_rounds (fin false 0 (pos 0)) ≡ 0)
    × (sqrt_rounds (fin true 0 (pos 0)) ≡ 0)
    × (sqrt_rounds (fin true 1 (pos 0)) ≡ 0)
    × (sqrt_rounds (inf false) ≡ 0)
    × (sqrt_rounds (inf true) ≡ 0)
    × (sqrt_rounds nan ≡ 0)
unfolding sqrt_rounds exact_digits root_from size span climb
rounds_samples = (refl, refl, refl, refl, refl, refl, refl, refl, refl, refl, refl, refl, refl)
