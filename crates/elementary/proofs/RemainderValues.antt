-- `%` of values: the sign goes through, where it is a NaN, below twice the divisor one subtraction is the remainder, and by counts of the smallest
-- value, 2 ^ -1074, it is the remainder of the counts. Assumes nothing.
use mathlib.Core.Path.{◌≡◌, refl, sym, ap, ◌∙◌, subst}
use Prim.Native.Nat.{ℕ, zero, suc, ◌+◌, ◌-◌, ◌*◌, ◌/◌, ◌%◌, ◌^◌, ◌≤◌, ◌<◌, zero-le}
use native.Mathlib.Nat.{le_trans, le_of_eq, lt_of_lt_of_le, lt_of_le_of_lt, lt_of_not-le, zero-lt-suc, pos_of_ne-zero, mul_assoc, mul-pos, mul-le-mul_right, mul-lt-mul_of_pos_right, eq_of_mul-eq-mul_right, mod-eq_of_lt, mod-eq-sub-mod}
use native.Mathlib.Decide.{dec_le}
use native.Mathlib.Omega.{arith}
use mathlib.Core.Bool.{Bool, true, false, not, ◌||◌, cond, false≢true, true≢false}
use borrow.Author.Tests.{ltb-false, leb-true, leb-false, lt-ltb}
use lib.IntN.{ℤ, pos}
use lib.Dec.{T, leb, eqb, lit<}
use lib.Pow.{pow-add, pow_pos, pow_mono, shl_lt}
use lib.Ieee.{Float, nan, inf, fin, binary64, up, down, unlike, round, neg, sub, mul, rem, lt, eq, le, of_fields, of_bits, to_bits, nan_bits, is_nan, fits}
use lib.Ieee.Bits.{of_bits-to_bits, to_bits-lt}
use lib.Ieee.Exact.{HasValue}
use lib.Ieee.Fits.{up_pos, down_pos, neg-fits, rem-fits}
use lib.Ieee.Order.{round_mono}
use lib.Ieee.Positive.{first_pos}
use Rattle.answer.specs.Number.{is_finite}
use Rattle.arithmetic.proofs.Compared.{lt_values}
use Rattle.arithmetic.proofs.Count.{plus_fields}
use Rattle.arithmetic.proofs.Order as order
use Rattle.arithmetic.proofs.Powers.{apart}
use Rattle.arithmetic.proofs.Remainder.{mod_scale, rem_is, rem_exact}
use Rattle.arithmetic.proofs.Rounding.{neg_round}
use Rattle.arithmetic.proofs.Units.{rise, count, unique, round_back}
use Rattle.elementary.specs.Signs.{abs, negative, with_sign}
use Rattle.elementary.proofs.SignBit.{sign_bit}

-- ---- the sign

pub signed : (x y : Float) → rem binary64 x y ≡ with_sign (negative x) (rem binary64 (abs x) (abs y))
unfolding rem abs negative neg with_sign
signed nan y = refl
signed (inf true) y = refl
signed (inf false) y = refl
signed (fin true m e) nan = refl
signed (fin false m e) nan = refl
signed (fin true m e) (inf t) = refl
signed (fin false m e) (inf t) = refl
signed (fin false m e) (fin t n d) = refl
signed (fin true m e) (fin t n d) = go (eqb n 0)
  where
    a : ℕ
    a = m * up e * down d % (n * up d * down e)

    go : (b : Bool) → cond b nan (round binary64 true a (down e * down d)) ≡ neg (cond b nan (round binary64 false a (down e * down d)))
    go true = refl
    go false = sym (neg_round binary64 false a (down e * down d))

-- ---- 1 with a sign

bit : (x : Float) → T (fits binary64 x) → T (not (is_nan x)) → to_bits binary64 x / 2 ^ 63 * 2 ^ 63 % 2 ^ 64 ≡ cond (negative x) (2 ^ 63) 0
bit x h n = go (negative x) (sign_bit x h n)
  where
    b : ℕ
    b = to_bits binary64 x

    go : (t : Bool) → leb (2 ^ 63) b ≡ t → b / 2 ^ 63 * 2 ^ 63 % 2 ^ 64 ≡ cond t (2 ^ 63) 0
    go true l = omega (arith, leb-true (2 ^ 63) b l, to_bits-lt binary64 x h)
    go false l = omega (arith, leb-false (2 ^ 63) b l)

pub top_bit : (x : Float) → T (fits binary64 x) → to_bits binary64 x / 2 ^ 63 * 2 ^ 63 % 2 ^ 64 ≡ cond (negative x) (2 ^ 63) 0
top_bit nan h = unfold to_bits negative in refl
top_bit (inf s) h = bit (inf s) h (unfold is_nan in tt)
top_bit (fin s m e) h = bit (fin s m e) h (unfold is_nan in tt)

pub unit_pattern : (t : Bool) → let b = 1023 * 2 ^ 52 + cond t (2 ^ 63) 0 in (of_bits binary64 b ≡ fin t 1 (pos 0)) × T (not (nan_bits binary64 b))
unfolding of_bits nan_bits
unit_pattern true = (refl, tt)
unit_pattern false = (refl, tt)

other : (s : Bool) → unlike s true ≡ not s
other true = refl
other false = refl

own : (s : Bool) → unlike s false ≡ s
own true = refl
own false = refl

back : (s : Bool) (m : ℕ) (e : ℤ) → T (fits binary64 (fin s m e)) → round binary64 s (m * up e * 1) (down e * 1) ≡ fin s m e
back s m e h = round_back binary64 (fin s m e) s (m * up e * 1) (down e * 1) (mul-pos (down_pos e) (lit< tt)) h (refl, omega arith)

pub unit_times : (t : Bool) (x : Float) → T (fits binary64 x) → mul binary64 x (fin t 1 (pos 0)) ≡ with_sign t x
unfolding mul with_sign neg
unit_times true nan h = refl
unit_times false nan h = refl
unit_times true (inf s) h = ap inf (other s)
unit_times false (inf s) h = ap inf (own s)
unit_times true (fin s m e) h = rw (other s) (back (not s) m e (neg-fits binary64 (fin s m e) h))
unit_times false (fin s m e) h = rw (own s) (back s m e h)

-- ---- where it is a NaN

pub not_finite : (a b : Float) → is_finite a ≡ false → nan ≡ rem binary64 a b
unfolding is_finite rem
not_finite nan b f = refl
not_finite (inf s) b f = refl
not_finite (fin s m e) b f = absurd (true≢false f)

pub no_divisor : (a b : Float) → negative b ≡ false → is_finite a ≡ true → lt (of_bits binary64 0) b ≡ false → nan ≡ rem binary64 a b
unfolding is_finite rem lt negative of_bits
no_divisor nan b s f l = refl
no_divisor (inf t) b s f l = refl
no_divisor (fin t m e) nan s f l = refl
no_divisor (fin t m e) (inf u) s f l = absurd (true≢false (ap not (sym s) ∙ l))
no_divisor (fin t m e) (fin true n d) s f l = absurd (true≢false s)
no_divisor (fin t m e) (fin false zero d) s f l = refl
no_divisor (fin t m e) (fin false (suc n) d) s f l =
    let g : suc n * up d * 1 ≤ 0 * 1 * down d = ltb-false (0 * 1 * down d) (suc n * up d * 1) l in
    let h : 0 < suc n * up d = mul-pos (zero-lt-suc n) (up_pos d) in
    absurd (omega arith)

-- ---- where both are finite and above zero

pub finite_divisor : (a b : Float) → negative b ≡ false → is_finite a ≡ true → lt a b ≡ false → lt (of_bits binary64 0) b ≡ true → is_finite b ≡ true
unfolding is_finite lt negative of_bits
finite_divisor nan b s f h l = absurd (false≢true f)
finite_divisor (inf t) b s f h l = absurd (false≢true f)
finite_divisor (fin t m e) nan s f h l = absurd (false≢true l)
finite_divisor (fin t m e) (inf u) s f h l = absurd (false≢true (sym h ∙ l))
finite_divisor (fin t m e) (fin u n d) s f h l = refl

pub finite_number : (x : Float) → is_finite x ≡ true → T (not (is_nan x))
unfolding is_finite is_nan
finite_number nan f = absurd (false≢true f)
finite_number (inf s) f = tt
finite_number (fin s m e) f = tt

at_top : (b : ℕ) → 2047 * 2 ^ 52 ≤ b → b < 2 ^ 63 → is_finite (of_bits binary64 b) ≡ false
unfolding of_fields
at_top b lo hi =
    let e : b / 2 ^ 52 ≡ 2047 = omega arith in
    rw (plus_fields b hi, e) (go (eqb (b % 2 ^ 52) 0))
  where
    go : (t : Bool) → is_finite (cond t (inf false) nan) ≡ false
    go true = unfold is_finite in refl
    go false = unfold is_finite in refl

pub finite_pattern : (x : Float) → T (fits binary64 x) → negative x ≡ false → is_finite x ≡ true → to_bits binary64 x < 2047 * 2 ^ 52
finite_pattern x h s f =
    let b = to_bits binary64 x in
    let hi : b < 2 ^ 63 = leb-false (2 ^ 63) b (sign_bit x h (finite_number x f) ∙ s) in
    lt_of_not-le (λ g. true≢false (sym f ∙ ap is_finite (sym (of_bits-to_bits binary64 x h)) ∙ at_top b g hi))

pub irreflexive : (x : Float) → lt x x ≡ false
irreflexive x = never (lt x x) (order.lt_irrefl x)
  where
    never : (b : Bool) → (T b → ⊥) → b ≡ false
    never true f = absurd (f tt)
    never false f = refl

-- what is no smaller than a value above zero has no pattern 0
pub some_pattern : (x y : Float) → T (fits binary64 x) → lt x y ≡ false → lt (of_bits binary64 0) y ≡ true → 0 < to_bits binary64 x
some_pattern x y h g l =
    pos_of_ne-zero (λ z. false≢true (sym g ∙ ap (λ v. lt v y) (sym (of_bits-to_bits binary64 x h) ∙ ap (of_bits binary64) z) ∙ l))

-- ---- below twice the divisor

either : (p q : Bool) → (T p → ⊥) → (T q → ⊥) → T (p || q) → ⊥
either true q f g t = f tt
either false true f g t = g tt
either false false f g t = t

lt_not_le : (x y : Float) → T (lt x y) → T (le y x) → ⊥
unfolding le
lt_not_le x y l = either (lt y x) (eq y x) (λ g. order.lt_irrefl x (order.lt_trans x y x l g)) (λ g. order.lt_irrefl y (order.eq_lt_trans y x y g l))

module _ (m : ℕ) (e : ℤ) (n : ℕ) (d : ℤ) (k : T (fits binary64 (fin false n d))) where
  abbrev A : ℕ
  A = m * up e * down d

  abbrev B : ℕ
  B = n * up d * down e

  abbrev C : ℕ
  C = down e * down d

  C_pos : 0 < C
  C_pos = mul-pos (down_pos e) (down_pos d)

  -- where the difference rounds to less than the divisor, it is less
  less : lt (round binary64 false (A - B) C) (fin false n d) ≡ true → A - B < B
  less l =
      lt_of_not-le λ g.
      let value = sym (mul_assoc (n * up d) (down e) (down d)) in
      let r : round binary64 false B C ≡ fin false n d = round_back binary64 (fin false n d) false B C C_pos k (refl, value) in
      lt_not_le (round binary64 false (A - B) C) (fin false n d) (rw l tt) (rw r at (round_mono binary64 B C (A - B) C C_pos C_pos (mul-le-mul_right C g)))

  difference : lt (fin false m e) (fin false n d) ≡ false → sub binary64 (fin false m e) (fin false n d) ≡ round binary64 false (A - B) C
  unfolding lt sub
  difference h = rw h

  at_once : lt (fin false m e) (fin false n d) ≡ false → lt (sub binary64 (fin false m e) (fin false n d)) (fin false n d) ≡ true
      → sub binary64 (fin false m e) (fin false n d) ≡ rem binary64 (fin false m e) (fin false n d)
  at_once h l =
      let g : B ≤ A = unfold lt in ltb-false A B h in
      let s : A - B < B = less (ap (λ r. lt r (fin false n d)) (sym (difference h)) ∙ l) in
      let N : 0 < n = first_pos n (up d) (first_pos (n * up d) (down e) (lt_of_le_of_lt zero-le s)) in
      difference h ∙ ap (λ r. round binary64 false r C) (sym (mod-eq-sub-mod g ∙ mod-eq_of_lt s)) ∙ sym (rem_is binary64 false m e false n d N)

pub once : (a b : Float) → T (fits binary64 b) → negative a ≡ false → negative b ≡ false → lt a b ≡ false → lt (sub binary64 a b) b ≡ true
    → sub binary64 a b ≡ rem binary64 a b
unfolding sub lt negative
once nan b k s t h l = absurd (false≢true l)
once (inf true) b k s t h l = absurd (true≢false s)
once (inf false) nan k s t h l = absurd (false≢true l)
once (inf false) (inf true) k s t h l = absurd (true≢false t)
once (inf false) (inf false) k s t h l = absurd (false≢true l)
once (inf false) (fin u n d) k s t h l = absurd (false≢true l)
once (fin true m e) b k s t h l = absurd (true≢false s)
once (fin false m e) nan k s t h l = absurd (false≢true l)
once (fin false m e) (inf true) k s t h l = absurd (true≢false t)
once (fin false m e) (inf false) k s t h l = absurd (true≢false h)
once (fin false m e) (fin true n d) k s t h l = absurd (true≢false t)
once (fin false m e) (fin false n d) k s t h l = at_once m e n d k h l

-- ---- by counts of the smallest value

counts : (x y : Float) (s t : Bool) (a b : ℕ) → T (fits binary64 x) → T (fits binary64 y) → HasValue x s a (2 ^ 1074) → HasValue y t b (2 ^ 1074) → 0 < b
    → HasValue (rem binary64 x y) s (a % b) (2 ^ 1074)
counts nan y s t a b h k v w B = absurd v
counts (inf u) y s t a b h k v w B = absurd v
counts (fin u m e) nan s t a b h k v w B = absurd w
counts (fin u m e) (inf r) s t a b h k v w B = absurd w
counts (fin u m e) (fin r n d) s t a b h k v w B =
    let i : m * 2 ^ rise binary64 e ≡ a = same u m e s a h v in
    let j : n * 2 ^ rise binary64 d ≡ b = same r n d t b k w in
    subst (λ (c : Bool). HasValue (rem binary64 (fin u m e) (fin r n d)) c (a % b) (2 ^ 1074)) v.0
    (rw (← i, ← j) (rem_exact binary64 u m e r n d h k (first_pos n (2 ^ rise binary64 d) (rw j B))))
  where
    same : (u : Bool) (m : ℕ) (e : ℤ) (s : Bool) (a : ℕ) → T (fits binary64 (fin u m e)) → HasValue (fin u m e) s a (2 ^ 1074) → m * 2 ^ rise binary64 e ≡ a
    same u m e s a h v = eq_of_mul-eq-mul_right (down e) (down_pos e) (m * 2 ^ rise binary64 e) a (sym (count binary64 u m e h).1 ∙ v.1)

-- x is m * 2 ^ h of it and y is n * 2 ^ g
module _ (x y : Float) (m h n g : ℕ) (v : HasValue x false (m * 2 ^ h) (2 ^ 1074)) (w : HasValue y false (n * 2 ^ g) (2 ^ 1074))
    (M : m < 2 ^ 53) (N : 0 < n) where
  pub higher : (0 < g → 2 ^ 52 ≤ n) → lt x y ≡ false → g ≤ h
  higher full l = go (dec_le g h)
    where
      smaller : h < g → m * 2 ^ h < n * 2 ^ g
      smaller k =
          lt_of_lt_of_le (shl_lt 53 h M)
          (le_trans (pow_mono {i = 53 + h} {j = 52 + g} (omega arith))
          (le_trans (le_of_eq (pow-add 2 52 g)) (mul-le-mul_right (2 ^ g) (full (lt_of_le_of_lt zero-le k)))))

      go : Dec (g ≤ h) → g ≤ h
      go (yes k) = k
      go (no k) =
          absurd (true≢false
          (sym (lt-ltb (m * 2 ^ h * 2 ^ 1074) (n * 2 ^ g * 2 ^ 1074) (mul-lt-mul_of_pos_right (smaller (lt_of_not-le k)) (pow_pos 1074)))
          ∙ sym (lt_values false false (m * 2 ^ h) (2 ^ 1074) (n * 2 ^ g) (2 ^ 1074) (pow_pos 1074) (pow_pos 1074) x y v w)
          ∙ l))

  pub made : (z : Float) (r : ℕ) → T (fits binary64 x) → T (fits binary64 y) → T (fits binary64 z) → g ≤ h
      → r ≡ m * 2 ^ (h - g) % n → HasValue z false (r * 2 ^ g) (2 ^ 1074)
      → z ≡ rem binary64 x y
  made z r fx fy fz l e u =
      let c : m * 2 ^ h % (n * 2 ^ g) ≡ r * 2 ^ g =
      ap (λ (i : ℕ). i % (n * 2 ^ g)) (apart m h (h - g) g (omega arith))
      ∙ mod_scale (m * 2 ^ (h - g)) n (2 ^ g) N (pow_pos g)
      ∙ ap (λ (i : ℕ). i * 2 ^ g) (sym e) in
      unique binary64 z (rem binary64 x y) false (r * 2 ^ g) (2 ^ 1074) (pow_pos 1074) fz (rem-fits binary64 x y fx) u
      (rw c at (counts x y false false (m * 2 ^ h) (n * 2 ^ g) fx fy v w (mul-pos N (pow_pos g))))
