-- The root's digits, round by round, on plain numbers. `Found` is the loop's invariant: a round takes it from k to k + 1 (`next`), it
-- bounds the words, and at the loop's end it gives the nearest root (`root_up`, `root_down`) and the rounds (`rounds_are`). With r for the
-- weight of the next digit, that of the last is w = 2 * r, and t = 4 * q + 2 * r. The digit is 1, and y loses t, where y is at least t;
-- then y is doubled, since it counts in units of w. Assumes nothing.
use Rattle.std.proofs.Common.{◌≡◌, ℕ, zero, suc, ◌+◌, ◌-◌, ◌*◌, ◌/◌, ◌%◌, ◌^◌, ◌<◌, ◌≤◌, Bool, true, false, cond, not, T, leb, ◌⊎◌, sym, refl, ap, ◌∙◌, subst, inl, inr, eq-zero-or-pos, lt_of_mul-lt-mul_right, mul-lt-mul_of_pos_right, zero-mul, le_of_mul-le-mul_right, add-one, arith, leb→le, pow_pos, pow_mono, pow-add}
use native.Mathlib.Nat.{pow-succ'}
use lib.Dec.{nleb→lt}
use lib.Ieee.{Float, binary64, size, fits}
use Rattle.arithmetic.specs.Rounds.{sqrt_rounds}
use Rattle.arithmetic.specs.Sqrt.{nearest_root}
use Rattle.arithmetic.proofs.Powers.{size_is}
use Rattle.arithmetic.proofs.Root.{Floor, lt_of_squares, floor_unique, rounds_up, rounds_down}
use Rattle.arithmetic.proofs.Rounds.{exact_floor, square_rounds, no_square_rounds}
use Rattle.arithmetic.proofs.Width.{Wide, scaled}
use Rattle.square_root.specs.Digits.{Marked, Found}

-- ---- before the first round

pub none_found : (m : ℕ) → 2 ^ 52 ≤ m → m < 2 ^ 54 → Found (m * 2 ^ 52) (2 ^ 53) (2 * m) (2 ^ 52) 0
none_found m lo hi =
    record {
      q = 0;
      w = 2 ^ 53;
      few = omega arith;
      weight = refl;
      c = 0;
      c_is = refl;
      t_is = refl;
      y_is = omega arith;
      r_is = refl;
      above = omega arith;
      last = λ e. omega arith;
    }

-- ---- one round, z being what y keeps

one_square : (n q z r : ℕ) → 4 * (q * q) + (z + (4 * q + 2 * r)) * (2 * r) ≡ 4 * n → 4 * ((q + r) * (q + r)) + 2 * z * r ≡ 4 * n
one_square n q z r h = omega arith

one_above : (n q r : ℕ) → n < (q + 2 * r) * (q + 2 * r) → n < (q + r + r) * (q + r + r)
one_above n q r h = omega arith

zero_square : (n q y r : ℕ) → 4 * (q * q) + y * (2 * r) ≡ 4 * n → 4 * (q * q) + 2 * y * r ≡ 4 * n
zero_square n q y r h = omega arith

zero_above : (n q y r : ℕ) → 4 * (q * q) + y * (2 * r) ≡ 4 * n → y < 4 * q + 2 * r → 0 < r → n < (q + r) * (q + r)
zero_above n q y r h k p = let m : y * r < (4 * q + 2 * r) * r = mul-lt-mul_of_pos_right k p in omega arith

-- ---- weights: the last digit's is a power of two, which is 1 at the end and else twice the next one's

pub record Weights (w r k : ℕ) : Type 0 where
  pub below : k < 53
  pub twice : w ≡ 2 * r
  pub next : r ≡ 2 ^ (53 - (k + 1))

weights : (w r k : ℕ) → k ≤ 53 → w ≡ 2 ^ (53 - k) → r ≡ w / 2 → ((k ≡ 53) × (w ≡ 1) × (r ≡ 0)) ⊎ Weights w r k
weights w r k few e f = by (53 - k) refl e
  where
    by : (i : ℕ) → 53 - k ≡ i → w ≡ 2 ^ i → ((k ≡ 53) × (w ≡ 1) × (r ≡ 0)) ⊎ Weights w r k
    by zero i e = inl (omega arith, omega arith, omega arith)
    by (suc i) j e =
        let p : w ≡ 2 * 2 ^ i = e ∙ pow-succ' 2 i in
        let q : i ≡ 53 - (k + 1) = omega arith in
        let h : r ≡ 2 ^ i = omega arith in
        inr (record { below = omega arith; twice = omega arith; next = h ∙ ap (λ (x : ℕ). 2 ^ x) q })

module _ (n t y r k : ℕ) (f : Found n t y r k) where
  abbrev q : ℕ
  q = f.q

  abbrev w : ℕ
  w = f.w

  abbrev c : ℕ
  c = f.c

  either : ((k ≡ 53) × (w ≡ 1) × (r ≡ 0)) ⊎ Weights w r k
  either = weights w r k f.few f.weight f.r_is

  -- ---- what bounds the words

  pub root_lt : n < 2 ^ 106 → q < 2 ^ 53
  root_lt small = lt_of_squares q (2 ^ 53) (go f.y_is)
    where
      go : 4 * (q * q) + y * w ≡ 4 * n → q * q < 2 ^ 53 * 2 ^ 53
      go e = omega arith

  w_most : w ≤ 2 ^ 53
  w_most = subst (λ (x : ℕ). x ≤ 2 ^ 53) (sym f.weight) (pow_mono {i = 53 - k} {j = 53} (omega arith))

  left_lt : y < 8 * q + 4 * w
  left_lt = lt_of_mul-lt-mul_right w (go f.y_is f.above)
    where
      go : 4 * (q * q) + y * w ≡ 4 * n → n < (q + w) * (q + w) → y * w < (8 * q + 4 * w) * w
      go e l = omega arith

  pub t_lt : n < 2 ^ 106 → t < 2 ^ 56
  t_lt small = omega (arith, root_lt small, w_most, f.t_is)

  pub y_lt : n < 2 ^ 106 → y < 2 ^ 57
  y_lt small = omega (arith, root_lt small, w_most, left_lt)

  -- ---- one round

  module _ (more : 0 < r) (some : 0 < y) where
    halves : Weights w r k
    halves = by either
      where
        by : ((k ≡ 53) × (w ≡ 1) × (r ≡ 0)) ⊎ Weights w r k → Weights w r k
        by (inl e) = absurd (omega (arith, e.2))
        by (inr h) = h

    pub rounds_lt : k < 53
    rounds_lt = halves.below

    square : 4 * (q * q) + y * (2 * r) ≡ 4 * n
    square = subst (λ (p : ℕ). 4 * (q * q) + y * p ≡ 4 * n) halves.twice f.y_is

    above : n < (q + 2 * r) * (q + 2 * r)
    above = subst (λ (p : ℕ). n < (q + p) * (q + p)) halves.twice f.above

    digits : q ≡ c * (2 * r)
    digits = subst (λ (p : ℕ). q ≡ c * p) halves.twice f.c_is

    t_twice : t ≡ 4 * q + 2 * r
    t_twice = omega (arith, f.t_is, halves.twice)

    -- any digits, then 010, in units of r
    pub marked : Marked t r
    marked = record { a = c; i = 53 - (k + 1); r_is = halves.next; t_is = t_twice ∙ in_units c digits }
      where
        in_units : (c : ℕ) → q ≡ c * (2 * r) → 4 * q + 2 * r ≡ (8 * c + 2) * r
        in_units c e = omega arith

    round : (b : Bool) → (T b → t ≤ y) → (T (not b) → y < t) → (v z : ℕ) → v ≡ cond b (t + 3 * r) (t - r) → z ≡ 2 * cond b (y - t) y
        → Found n v z (r / 2) (k + 1)
    round true h g v z i j = record {
      q = q + r;
      w = r;
      few = omega (arith, rounds_lt);
      weight = halves.next;
      c = 2 * c + 1;
      c_is = one_more c digits;
      t_is = omega (arith, t_twice);
      y_is = subst (λ (x : ℕ). 4 * ((q + r) * (q + r)) + x * r ≡ 4 * n) (sym j) (one_square n q (y - t) r kept);
      r_is = refl;
      above = one_above n q r above;
      last = λ e. odd c;
    }
      where
        kept : 4 * (q * q) + (y - t + (4 * q + 2 * r)) * (2 * r) ≡ 4 * n
        kept = subst (λ (x : ℕ). 4 * (q * q) + x * (2 * r) ≡ 4 * n) (omega (arith, t_twice, h tt)) square

        one_more : (c : ℕ) → q ≡ c * (2 * r) → q + r ≡ (2 * c + 1) * r
        one_more c e = omega arith

        odd : (c : ℕ) → (2 * c + 1) % 2 ≡ 1
        odd c = omega arith
    round false h g v z i j = record {
      q = q;
      w = r;
      few = omega (arith, rounds_lt);
      weight = halves.next;
      c = 2 * c;
      c_is = as_many c digits;
      t_is = omega (arith, t_twice);
      y_is = subst (λ (x : ℕ). 4 * (q * q) + x * r ≡ 4 * n) (sym j) (zero_square n q y r square);
      r_is = refl;
      above = zero_above n q y r square (omega (arith, t_twice, g tt)) more;
      last = λ e. absurd (omega arith);
    }
      where
        as_many : (c : ℕ) → q ≡ c * (2 * r) → q ≡ 2 * c * r
        as_many c e = omega arith

    pub next : (v z : ℕ) → v ≡ cond (leb t y) (t + 3 * r) (t - r) → z ≡ 2 * cond (leb t y) (y - t) y → Found n v z (r / 2) (k + 1)
    next = round (leb t y) (leb→le t y) (nleb→lt t y)

  -- ---- the end: the digits, and the nearest root

  pub digits_are : (t - 2 * r) / 4 ≡ q
  digits_are = by either
    where
      by : ((k ≡ 53) × (w ≡ 1) × (r ≡ 0)) ⊎ Weights w r k → (t - 2 * r) / 4 ≡ q
      by (inl e) = omega (arith, e.1, e.2, f.t_is)
      by (inr h) = omega (arith, h.twice, f.t_is)

  no_digit : r ≡ 0 → (k ≡ 53) × (w ≡ 1)
  no_digit z = by either
    where
      by : ((k ≡ 53) × (w ≡ 1) × (r ≡ 0)) ⊎ Weights w r k → (k ≡ 53) × (w ≡ 1)
      by (inl e) = (e.0, e.1)
      by (inr h) = absurd (omega (arith, pow_pos (53 - (k + 1)), h.next))

  module _ (z : r ≡ 0) where
    square_1 : 4 * (q * q) + y * 1 ≡ 4 * n
    square_1 = subst (λ (p : ℕ). 4 * (q * q) + y * p ≡ 4 * n) (no_digit z).1 f.y_is

    floor : Floor n q
    floor = let e = square_1 in let l = subst (λ (p : ℕ). n < (q + p) * (q + p)) (no_digit z).1 f.above in (omega arith, omega arith)

  exact : y ≡ 0 → q * q ≡ n
  exact z = go w f.y_is
    where
      go : (w : ℕ) → 4 * (q * q) + y * w ≡ 4 * n → q * q ≡ n
      go w e = let h : y * w ≡ 0 = ap (λ (x : ℕ). x * w) z ∙ zero-mul w in omega arith

  module _ (small : n < 2 ^ 106) (end : (r ≡ 0) ⊎ (y ≡ 0)) where
    pub root_up : t < y → (t - 2 * r) / 4 + 1 ≡ nearest_root 53 n
    root_up h = by end
      where
        by : (r ≡ 0) ⊎ (y ≡ 0) → (t - 2 * r) / 4 + 1 ≡ nearest_root 53 n
        by (inl z) =
            let e = square_1 z in
            ap (λ (x : ℕ). x + 1) digits_are ∙ add-one q ∙ sym (rounds_up 53 n small q (floor z) (omega (arith, f.t_is, (no_digit z).1)))
        by (inr z) = absurd (omega arith)

    pub root_down : y ≤ t → (t - 2 * r) / 4 ≡ nearest_root 53 n
    root_down h = digits_are ∙ by end
      where
        by : (r ≡ 0) ⊎ (y ≡ 0) → q ≡ nearest_root 53 n
        by (inl z) = let e = square_1 z in sym (rounds_down 53 n small q (floor z) (omega (arith, f.t_is, (no_digit z).1)))
        by (inr z) = sym (rounds_down 53 n small q (exact_floor q n (exact z)) (omega (arith, exact z)))

  -- ---- the end: the rounds

  module _ (x : Float) (h : T (fits binary64 x)) (a g : ℕ) (v : Wide x a g) (full : n ≡ scaled a g) (large : 2 ^ 104 ≤ n) (small : n < 2 ^ 106) where
    -- nothing is left: the digits are the exact root, the first and the last of them a 1
    module _ (z : y ≡ 0) where
      q_least : 2 ^ 52 ≤ q
      q_least = omega (arith, lt_of_squares (2 ^ 52 - 1) q (omega (arith, exact z)))

      digits_size : size c ≡ k
      digits_size = by k f.few (f.c_is ∙ ap (λ (p : ℕ). c * p) f.weight) (f.last z)
        where
          by : (k : ℕ) → k ≤ 53 → q ≡ c * 2 ^ (53 - k) → c % 2 ≡ 1 → size c ≡ k
          by zero l e o = absurd (omega (arith, root_lt small))
          by (suc p) l e o =
              let i = 53 - suc p in
              let lo-sum : p + i ≡ 52 = omega arith in
              let hi-sum : suc p + i ≡ 53 = omega arith in
              let lo : 2 ^ p * 2 ^ i ≡ 2 ^ 52 = sym (pow-add 2 p i) ∙ ap (λ (j : ℕ). 2 ^ j) lo-sum in
              let hi : 2 ^ suc p * 2 ^ i ≡ 2 ^ 53 = sym (pow-add 2 (suc p) i) ∙ ap (λ (j : ℕ). 2 ^ j) hi-sum in
              size_is c p
              (le_of_mul-le-mul_right (subst (λ (j : ℕ). j ≤ c * 2 ^ i) (sym lo) (subst (λ (j : ℕ). 2 ^ 52 ≤ j) e q_least)) (pow_pos i))
              (lt_of_mul-lt-mul_right (2 ^ i) (subst (λ (j : ℕ). c * 2 ^ i < j) (sym hi) (subst (λ (j : ℕ). j < 2 ^ 53) e (root_lt small))))

      exact_rounds : sqrt_rounds x ≡ k
      exact_rounds =
          let e = f.c_is ∙ ap (λ (p : ℕ). c * p) f.weight in
          square_rounds x h a g v c (53 - k) (f.last z) (sym full ∙ sym (exact z) ∙ ap (λ (j : ℕ). j * j) e) ∙ digits_size

    -- no digit is left, and something of n is: no whole number's square is n
    inexact_rounds : 0 < y → r ≡ 0 → sqrt_rounds x ≡ k
    inexact_rounds some z =
        no_square_rounds x h a g v (λ u e. left (floor_unique n u q (exact_floor u n (e ∙ sym full)) (floor z)) (e ∙ sym full))
        ∙ sym (no_digit z).0
      where
        left : {u : ℕ} → u ≡ q → u * u ≡ n → ⊥
        left e i = let j : q * q ≡ n = subst (λ (p : ℕ). p * p ≡ n) e i in omega (arith, square_1 z)

    pub rounds_are : (r ≡ 0) ⊎ (y ≡ 0) → k ≡ sqrt_rounds x
    rounds_are end = sym (by (eq-zero-or-pos y) end)
      where
        by : (y ≡ 0) ⊎ (0 < y) → (r ≡ 0) ⊎ (y ≡ 0) → sqrt_rounds x ≡ k
        by (inl z) e = exact_rounds z
        by (inr p) (inl z) = inexact_rounds p z
        by (inr p) (inr z) = exact_rounds z
