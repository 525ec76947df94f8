-- Core, atan and atan2 are NaN or small, for all floats: `atan_small`, `atan2_small`. Core takes nothing beyond 1 there; the divisor of each halving
-- is 1 at least, so what the series takes is within 1, and the series within the sum of its coefficients. Assumes nothing.
use Rattle.std.proofs.Common.{◌≡◌, ℕ, ◌*◌, ◌<◌, ◌≤◌, Bool, true, false, not, ◌&&◌, ◌||◌, T, eqb, ltb, ◌⊎◌, List, [], ◌∷◌, ℤ, pos, refl, ap, ◌∙◌, subst, inl, inr, true≢false, lt_of_lt_of_le, lt_irrefl, eq-zero-or-pos, mul-pos, zero-mul, arith, nltb→le}
use mathlib.Core.Bool.{false≢true}
use lib.Ieee.{Float, nan, inf, fin, binary64, up, down, round, of_bits, add, sub, mul, div, eq, le}
use lib.Ieee.Fits.{and_l, and_r, eq→eqb, down_pos, add-fits}
use lib.Ieee.Scale.{finite}
use Rattle.arithmetic.specs.Arith.{ieee}
use Rattle.arithmetic.specs.Numbers.{0·0, 1·0, 4·0}
use Rattle.arithmetic.specs.Sqrt.{sqrt}
use Rattle.arithmetic.proofs.Bounds.{Within, within, sizes, within_finite, clear, own, wider, le_within, neg_within, mul_within, add_within, sub_within, div_within}
use Rattle.arithmetic.proofs.Bounded.{Bounded, square_clear, add_clear, div_one, one_plus, root_clear}
use Rattle.arithmetic.proofs.Ieee754.{sqrt_fits}
use Rattle.elementary.specs.Signs.{with_sign}
use Rattle.elementary.specs.Constants.{PI, FRAC_PI_2, core_first, core_rest}
use Rattle.elementary.specs.Sine.{series}
use Rattle.elementary.specs.Arctangent.{halved, core, atan_size, atan, atan2_base, atan2}

-- ---- a series: for a z within Z and a p within P it is within the same steps with every difference a sum

unfoldable pub most : Float → Float → List Float → Float
most Z P [] = P
most Z P (c ∷ cs) = most Z (add binary64 c (mul binary64 Z P)) cs

-- no coefficient is negative, and no step on the bounds overflows
unfoldable pub sound : Float → Float → List Float → Bool
sound Z P [] = true
sound Z P (c ∷ cs) = let q = mul binary64 Z P in let n = add binary64 c q in clear c && (finite c && (finite q && (finite n && sound Z n cs)))

pub series_within : (cs : List Float) {z Z p P : Float} → Within z Z → Within p P → T (sound Z P cs) → Within (series ieee z p cs) (most Z P cs)
unfolding series most sound
series_within [] w v h = v
series_within (c ∷ cs) {z} {Z} {p} {P} w v h =
    let q = mul binary64 Z P in
    let n = add binary64 c q in
    let h₁ = and_r (clear c) (finite c && (finite q && (finite n && sound Z n cs))) h in
    let h₂ = and_r (finite c) (finite q && (finite n && sound Z n cs)) h₁ in
    let h₃ = and_r (finite q) (finite n && sound Z n cs) h₂ in
    let c-clear = and_l (clear c) (finite c && (finite q && (finite n && sound Z n cs))) h in
    let c-own = own c c-clear (and_l (finite c) (finite q && (finite n && sound Z n cs)) h₁) in
    let step = sub_within binary64 c-own (mul_within binary64 w v (and_l (finite q) (finite n && sound Z n cs) h₂)) (and_l (finite n) (sound Z n cs) h₃) in
    series_within cs w step (and_r (finite n) (sound Z n cs) h₃)

-- ---- Core

square_within : {t : Float} → Within t 1·0 → Within (mul binary64 t t) 1·0
unfolding mul
square_within w = mul_within binary64 w w tt

plus_finite : {q : Float} → Within q 1·0 → T (finite (add binary64 1·0 q))
unfolding add
plus_finite w = within_finite (add_within binary64 (own 1·0 tt tt) w tt)

quotient_within : {x y : Float} → Within x 1·0 → Within 1·0 y → Within (div binary64 x y) 1·0
unfolding div
quotient_within w v = div_within binary64 w v tt tt

halved_within : {t : Float} → Within t 1·0 → Within (halved ieee t) 1·0
unfolding halved
halved_within {t} w =
    let q = mul binary64 t t in
    let x = add binary64 1·0 q in
    let q-within = square_within w in
    let x-clear = add_clear binary64 1·0 q tt (square_clear binary64 t (within_finite w)) tt (within_finite q-within) in
    let x_Fits = add-fits binary64 1·0 q in
    let r = root_clear x x_Fits x-clear (plus_finite q-within) in
    quotient_within w (one_plus (sqrt x) (sqrt_fits x x_Fits) r.0 r.1)

-- 10.0
abbrev pub 10·0 : Float
10·0 = fin false 5 (pos 1)

-- 12.0
abbrev pub 12·0 : Float
12·0 = fin false 3 (pos 2)

-- 16.0
abbrev pub 16·0 : Float
16·0 = fin false 1 (pos 4)

-- what the series comes to on the bounds: 2.26
core_most : Float
core_most = most 1·0 core_first core_rest

first_own : Within core_first core_first
unfolding core_first
first_own = own core_first tt tt

coefficients : T (sound 1·0 core_first core_rest)
unfolding sound core_first core_rest add mul
coefficients = tt

core_steps : {h p : Float} → Within h 1·0 → Within p core_most → Within (mul binary64 4·0 (mul binary64 h p)) 10·0
unfolding core_most most core_first core_rest add mul le
core_steps v w =
    let m = mul_within binary64 (own 4·0 tt tt) (mul_within binary64 v w tt) tt in
    wider m (le_within (mul binary64 4·0 (mul binary64 1·0 core_most)) 10·0 tt tt tt tt)

core_at : {h : Float} → Within h 1·0 → Within (mul binary64 4·0 (mul binary64 h (series ieee (mul binary64 h h) core_first core_rest))) 10·0
core_at {h} v =
    let z = square_within v in
    let s : Within (series ieee (mul binary64 h h) core_first core_rest) core_most = unfold core_most in series_within core_rest z first_own coefficients in
    core_steps v s

pub core_small : {t : Float} → Within t 1·0 → Within (core ieee t) 10·0
unfolding core
core_small w = core_at (halved_within (halved_within w))

-- ---- atan

-- of two that are not negative the first is at most the second, or the second at most the first
le_or : (m : ℕ) (e : ℤ) (n : ℕ) (d : ℤ) → le (fin false m e) (fin false n d) ≡ false → Within (fin false n d) (fin false m e)
unfolding le
le_or m e n d h =
    let a = m * up e * down d in
    let b = n * up d * down e in
    within (at (ltb a b) (eqb a b && true) (nltb→le a b) h)
  where
    at : (p q : Bool) {P : Type 0} → (T (not p) → P) → (p || q) ≡ false → P
    at true q f e = absurd (true≢false e)
    at false q f e = f tt

le_so : (m : ℕ) (e : ℤ) (n : ℕ) (d : ℤ) → le (fin false m e) (fin false n d) ≡ true → Within (fin false m e) (fin false n d)
le_so m e n d h = le_within (fin false m e) (fin false n d) tt tt tt (at (le (fin false m e) (fin false n d)) h)
  where
    at : (b : Bool) → b ≡ true → T b
    at true e = tt
    at false e = absurd (false≢true e)

quarter_less : {c : Float} → Within c 10·0 → Within (sub binary64 FRAC_PI_2 c) 12·0
unfolding FRAC_PI_2 of_bits add le
quarter_less w = wider (sub_within binary64 (own FRAC_PI_2 tt tt) w tt) (le_within (add binary64 FRAC_PI_2 10·0) 12·0 tt tt tt tt)

ten_twelve : Within 10·0 12·0
unfolding le
ten_twelve = le_within 10·0 12·0 tt tt tt tt

twelve_sixteen : Within 12·0 16·0
unfolding le
twelve_sixteen = le_within 12·0 16·0 tt tt tt tt

atan_size_small : (m : ℕ) (e : ℤ) → Within (atan_size ieee (fin false m e)) 12·0
unfolding atan_size
atan_size_small m e = go (le (fin false m e) 1·0) refl
  where
    go : (b : Bool) → le (fin false m e) 1·0 ≡ b
        → Within (elim b [ true ↦ core ieee (fin false m e) | false ↦ sub binary64 FRAC_PI_2 (core ieee (div binary64 1·0 (fin false m e))) ]) 12·0
    go true h = wider (core_small (le_so m e 1 (pos 0) h)) ten_twelve
    go false h = quarter_less (core_small (quotient_within (own 1·0 tt tt) (le_or m e 1 (pos 0) h)))

zero_within : Within 0·0 1·0
unfolding le
zero_within = le_within 0·0 1·0 tt tt tt tt

infinite_size : Within (atan_size ieee (inf false)) 12·0
unfolding atan_size div
infinite_size = quarter_less (core_small zero_within)

signed : (s : Bool) {x B : Float} → Within x B → Within (with_sign s x) B
unfolding with_sign
signed false w = w
signed true w = neg_within w

pub atan_small : (x : Float) → Bounded (atan ieee x) 12·0
unfolding atan
atan_small nan t = absurd t
atan_small (inf s) t = signed s infinite_size
atan_small (fin s m e) t = signed s (atan_size_small m e)

-- ---- atan2

is_zero : (m : ℕ) (e : ℤ) → m * up e ≡ 0 → eq (fin false m e) 0·0 ≡ true
unfolding eq
is_zero m e h = at (eqb (m * up e * 1) (0 * 1 * down e)) (eq→eqb {a = m * up e * 1} {b = 0 * 1 * down e} (omega arith))
  where
    at : (b : Bool) → T b → (b && true) ≡ true
    at true t = refl
    at false t = absurd t

-- of two numbers that are not both 0 the larger is not
larger_not_zero : (m : ℕ) (e : ℤ) (n : ℕ) (d : ℤ) → ((eq (fin false m e) 0·0 ≡ true) → (eq (fin false n d) 0·0 ≡ true) → ⊥)
    → Within (fin false m e) (fin false n d) → n * up d ≡ 0 → ⊥
larger_not_zero m e n d f w z = f (is_zero m e (smaller (m * up e) (n * up d) (down e) (down d) (down_pos d) (sizes w) z)) (is_zero n d z)
  where
    smaller : (a b u v : ℕ) → 0 < v → a * v ≤ b * u → b ≡ 0 → a ≡ 0
    smaller a b u v pos-v h z = none (eq-zero-or-pos a)
      where
        product : (k : ℕ) → k ≡ 0 → k * u ≡ 0
        product k e = ap (λ i. i * u) e ∙ zero-mul u

        none : (a ≡ 0) ⊎ (0 < a) → a ≡ 0
        none (inl e) = e
        none (inr p) = absurd (lt_irrefl 0 (lt_of_lt_of_le (mul-pos p pos-v) (subst (λ k. a * v ≤ k) (product b z) h)))

both_zero : (p q : Bool) → (p && q) ≡ false → p ≡ true → q ≡ true → ⊥
both_zero true true h e f = true≢false h
both_zero true false h e f = false≢true f
both_zero false q h e f = false≢true e

unit_within : {x : Float} → Within x (round binary64 false 1 1) → Within x 1·0
unfolding round
unit_within w = w

unit_finite : T (finite (round binary64 false 1 1))
unfolding round
unit_finite = tt

zero_twelve : Within 0·0 12·0
unfolding le
zero_twelve = le_within 0·0 12·0 tt tt tt tt

base_small : (m : ℕ) (e : ℤ) (n : ℕ) (d : ℤ) → Within (atan2_base ieee (fin false m e) (fin false n d)) 12·0
unfolding atan2_base
base_small m e n d = go (eq (fin false m e) 0·0 && eq (fin false n d) 0·0) refl (le (fin false m e) (fin false n d)) refl
  where
    a : Float
    a = fin false m e

    b : Float
    b = fin false n d

    go : (z : Bool) → (eq a 0·0 && eq b 0·0) ≡ z → (l : Bool) → le a b ≡ l
        → Within
        (elim z [ true ↦ 0·0 | false ↦ elim l [ true ↦ core ieee (div binary64 a b) | false ↦ sub binary64 FRAC_PI_2 (core ieee (div binary64 b a)) ] ])
        12·0
    go true g l h = zero_twelve
    go false g true h =
        let w = le_so m e n d h in
        wider (core_small (unit_within (div_one binary64 w (larger_not_zero m e n d (both_zero (eq a 0·0) (eq b 0·0) g) w) unit_finite))) ten_twelve
    go false g false h =
        let w = le_or m e n d h in
        quarter_less (core_small (unit_within (div_one binary64 w (larger_not_zero n d m e (λ f g'. both_zero (eq a 0·0) (eq b 0·0) g g' f) w) unit_finite)))

half_turn_less : {x : Float} → Within x 12·0 → Within (sub binary64 PI x) 16·0
unfolding PI of_bits add le
half_turn_less w = wider (sub_within binary64 (own PI tt tt) w tt) (le_within (add binary64 PI 12·0) 16·0 tt tt tt tt)

pub atan2_small : (y x : Float) → Bounded (atan2 ieee y x) 16·0
unfolding atan2
atan2_small nan x t = absurd t
atan2_small (inf s) x t = absurd t
atan2_small (fin s m e) nan t = absurd t
atan2_small (fin s m e) (inf u) t = absurd t
atan2_small (fin s m e) (fin true n d) t = signed s (half_turn_less (base_small m e n d))
atan2_small (fin s m e) (fin false n d) t = signed s (wider (base_small m e n d) twelve_sixteen)
