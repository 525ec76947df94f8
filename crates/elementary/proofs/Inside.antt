-- What is bounded by 64 is not outside, and what is not outside is bounded by 64. Sine and cosine of an angle within a quarter turn and a little are
-- within 12: a crude bound, since the reduction leaves no more than such an angle and a quarter turn more. A rounded number is no larger than the
-- whole number that bounds it, and differs by a half at most. Assumes nothing.
use Rattle.std.proofs.Common.{◌≡◌, ℕ, zero, suc, ◌+◌, ◌-◌, ◌*◌, ◌<◌, ◌≤◌, Bool, true, false, cond, not, T, ltb, ℤ, pos, negsuc, neg_ℤ, sym, refl, subst, true≢false, mul-le-mul_right, div-lt_iff_lt-mul, lt_of_mul-lt-mul_right, mul-lt-mul_of_pos_right, mul-pos, not-le_of_lt, arith, lit≤, ltb→lt, ltb-false}
use mathlib.Core.Bool.{false≢true}
use lib.Ieee.{Float, nan, inf, fin, binary64, up, down, round, of_bits, neg, sum, add, sub, mul, rem, lt, le, fits}
use lib.Ieee.Bits.{is_true}
use lib.Ieee.Fits.{down_pos}
use lib.Ieee.Scale.{finite}
use Rattle.answer.specs.Given.{answered, refused}
use Rattle.answer.specs.Number.{is_finite}
use Rattle.arithmetic.specs.Arith.{ieee}
use Rattle.arithmetic.specs.Numbers.{1·0}
use Rattle.arithmetic.proofs.Bounds.{Within, within, clear, own, wider, le_within, neg_within, within_lt, round_within, mul_within, sub_within}
use Rattle.arithmetic.proofs.Bounded.{Bounded}
use Rattle.elementary.specs.Signs.{abs, negative}
use Rattle.elementary.proofs.Smaller.{own_remainder}
use Rattle.elementary.specs.declared.sine.SinCos.{SinCos}
use Rattle.elementary.specs.Constants.{TAU, FRAC_2_PI, FRAC_PI_2, PI_2_REST, sine_first, sine_rest, cosine_first, cosine_rest}
use Rattle.elementary.specs.Sine.{beyond, outside, unless_outside, series, modulo4, quarter_turns, whole_float, reduced, sin_cos_reduced, sin_cos_finite, sin_cos}
use Rattle.elementary.specs.Values.{RoundOf}
use Rattle.elementary.specs.Whole.{round_size, roundℤ}
use Rattle.elementary.specs.Whole.{round as nearest}
use Rattle.elementary.proofs.Sizes.{12·0, most, sound, series_within}
use Rattle.elementary.proofs.Values.{round_value}

-- ---- inside

-- 64.0
abbrev pub 64·0 : Float
64·0 = fin false 1 (pos 6)

pub not_beyond : (x : Float) (n : ℕ) (d : ℤ) → Bounded x (fin false n d) → beyond (fin false n d) x ≡ false
unfolding beyond
not_beyond nan n d h = refl
not_beyond (inf s) n d h = refl
not_beyond (fin s m e) n d h = at (h tt)
  where
    at : Within (fin s m e) (fin false n d) → ltb (n * up d * down e) (m * up e * down d) ≡ false
    at (within l) = none (ltb (n * up d * down e) (m * up e * down d)) (ltb→lt (n * up d * down e) (m * up e * down d))
      where
        none : (p : Bool) → (T p → n * up d * down e < m * up e * down d) → p ≡ false
        none true f = absurd (not-le_of_lt (f tt) l)
        none false f = refl

pub beyond_bounded : (x : Float) (n : ℕ) (d : ℤ) → beyond (fin false n d) x ≡ false → Bounded x (fin false n d)
unfolding beyond
beyond_bounded nan n d h t = absurd t
beyond_bounded (inf s) n d h t = absurd t
beyond_bounded (fin s m e) n d h t = within (ltb-false (n * up d * down e) (m * up e * down d) h)

pub inside : (x : Float) → Bounded x 64·0 → outside x ≡ false
inside x = not_beyond x 1 (pos 6)

pub inside_bounded : (x : Float) → outside x ≡ false → Bounded x 64·0
inside_bounded x = beyond_bounded x 1 (pos 6)

-- by any bound up to 64
pub inside_by : {B : Float} (x : Float) → Bounded x B → T (clear B) → T (finite B) → T (le B 64·0) → outside x ≡ false
inside_by {B} x h c f l = inside x (λ t. wider (h t) (le_within B 64·0 c tt tt l))

-- ---- the nearest whole number

-- at most k for a value whose bound is below k + 1/2
pub round_size_most : {s : Bool} {m : ℕ} {e : ℤ} (n : ℕ) (d : ℤ) (k : ℕ) → Within (fin s m e) (fin false n d)
    → T (ltb (2 * (n * up d)) ((2 * k + 1) * down d)) → round_size (m * up e) (down e) ≤ k
round_size_most {s} {m} {e} n d k (within h) l =
    let under : 2 * (n * up d) < (2 * k + 1) * down d = ltb→lt (2 * (n * up d)) ((2 * k + 1) * down d) l in
    below (m * up e) (down e) (n * up d) (down d) (down_pos e) (down_pos d) h under
  where
    chain : (M E N D : ℕ) → M * D ≤ N * E → 2 * N * E < (2 * k + 1) * D * E → 2 * M * D < (2 * k + 1) * E * D
    chain M E N D h l = omega (arith, h, l)

    below : (M E N D : ℕ) → 0 < E → 0 < D → M * D ≤ N * E → 2 * N < (2 * k + 1) * D → round_size M E ≤ k
    below M E N D pE pD h l =
        let a : 2 * M < (2 * k + 1) * E = lt_of_mul-lt-mul_right D (chain M E N D h (mul-lt-mul_of_pos_right l pE)) in
        let b : 2 * M + E < suc k * (2 * E) = omega (arith, a) in
        let P : 0 < 2 * E = omega (arith, pE) in
        let c : round_size M E < suc k = (div-lt_iff_lt-mul P).1 b in
        omega (arith, c)

-- as a float, of either sign
whole_most : (k b : ℕ) (s : Bool) → k ≤ b → T (finite (round binary64 false b 1)) → Within (round binary64 s k 1) (round binary64 false b 1)
whole_most k b s l F = round_within binary64 s k 1 b 1 (lit≤ tt) (lit≤ tt) (mul-le-mul_right 1 l) F

whole_float_most : (s : Bool) (k b : ℕ) → k ≤ b → T (finite (round binary64 false b 1))
    → Within (whole_float ieee (cond s (neg_ℤ (pos k)) (pos k))) (round binary64 false b 1)
unfolding whole_float
whole_float_most false k b l F = whole_most k b false l F
whole_float_most true zero b l F = whole_most zero b false l F
whole_float_most true (suc k) b l F = whole_most (suc k) b true l F

-- ---- sine and cosine

-- 1.578125, a little more than a quarter turn
abbrev pub quarter_over : Float
quarter_over = fin false 101 (negsuc 5)

-- what a quarter turn and such an angle come to: 3.15
abbrev left_over : Float
left_over = add binary64 (add binary64 quarter_over (mul binary64 1·0 FRAC_PI_2)) (mul binary64 1·0 PI_2_REST)

reduced_small : {y n : Float} → Within y quarter_over → Within n 1·0 → Within (reduced ieee y n) left_over
unfolding reduced FRAC_PI_2 PI_2_REST of_bits add mul
reduced_small v w =
    let quarters = mul_within binary64 w (own FRAC_PI_2 tt tt) tt in
    let rest = mul_within binary64 w (own PI_2_REST tt tt) tt in
    sub_within binary64 (sub_within binary64 v quarters tt) rest tt

z_most : Float
z_most = mul binary64 left_over left_over

z_small : {r : Float} → Within r left_over → Within (mul binary64 r r) z_most
unfolding z_most FRAC_PI_2 PI_2_REST of_bits add mul
z_small w = mul_within binary64 w w tt

sine_small : {r z : Float} → Within r left_over → Within z z_most → Within (mul binary64 r (series ieee z sine_first sine_rest)) 12·0
unfolding z_most most sound sine_first sine_rest FRAC_PI_2 PI_2_REST of_bits add mul le
sine_small v w =
    wider (mul_within binary64 v (series_within sine_rest w (own sine_first tt tt) tt) tt)
    (le_within (mul binary64 left_over (most z_most sine_first sine_rest)) 12·0 tt tt tt tt)

cosine_small : {z : Float} → Within z z_most → Within (series ieee z cosine_first cosine_rest) 12·0
unfolding z_most most sound cosine_first cosine_rest FRAC_PI_2 PI_2_REST of_bits add mul le
cosine_small w = wider (series_within cosine_rest w (own cosine_first tt tt) tt) (le_within (most z_most cosine_first cosine_rest) 12·0 tt tt tt tt)

-- both within B
pub record Pair (p : SinCos) (B : Float) : Type 0 where
  pub sine : Within p.sin B
  pub cosine : Within p.cos B

turned : (k : ℕ) {s c B : Float} → Within s B → Within c B → Pair (quarter_turns k s c) B
unfolding quarter_turns
turned zero v w = record { sine = v; cosine = w }
turned (suc zero) v w = record { sine = w; cosine = neg_within v }
turned (suc (suc zero)) v w = record { sine = neg_within v; cosine = neg_within w }
turned (suc (suc (suc k))) v w = record { sine = neg_within w; cosine = v }

at_quarter : (k : ℕ) {r : Float} → Within r left_over → Pair (sin_cos_reduced ieee k r) 12·0
unfolding sin_cos_reduced
at_quarter k w = let z = z_small w in turned k (sine_small w z) (cosine_small z)

within_turn : {x : Float} → T (fits binary64 x) → Within x quarter_over → x ≡ rem binary64 x TAU
unfolding abs lt TAU of_bits
within_turn h (within {s} {m} {n} {e} {d} l) =
    own_remainder (fin s m e) TAU h (is_true (lt (fin false m e) TAU) (within_lt {x = fin false m e} {B = quarter_over} TAU (within l) tt).1)

one_turn : {q : Float} → Within q (fin false 5 (negsuc 1)) → Within (whole_float ieee (roundℤ q)) 1·0
unfolding roundℤ round
one_turn (within {s} {m} {n} {e} {d} l) =
    whole_float_most s (round_size (m * up e) (down e)) 1 (round_size_most {s = s} {m = m} {e = e} 5 (negsuc 1) 1 (within l) tt) tt

quarters_small : {y : Float} → Within y quarter_over → Within (mul binary64 y FRAC_2_PI) (fin false 5 (negsuc 1))
unfolding FRAC_2_PI of_bits mul le
quarters_small w = wider (mul_within binary64 w (own FRAC_2_PI tt tt) tt) (le_within (mul binary64 quarter_over FRAC_2_PI) (fin false 5 (negsuc 1)) tt tt tt tt)

finite_small : {x : Float} → T (fits binary64 x) → Within x quarter_over → Pair (sin_cos_finite ieee x) 12·0
unfolding sin_cos_finite
finite_small {x} h w =
    let y : Within (rem binary64 x TAU) quarter_over = subst (λ v. Within v quarter_over) (within_turn h w) w in
    at_quarter (modulo4 (roundℤ (mul binary64 (rem binary64 x TAU) FRAC_2_PI))) (reduced_small y (one_turn (quarters_small y)))

pub sin_cos_small : {x : Float} → T (fits binary64 x) → Within x quarter_over → Pair (sin_cos ieee x) 12·0
unfolding sin_cos
sin_cos_small h (within l) = finite_small h (within l)

-- ---- what rounding takes off

-- 0.5
abbrev pub 1/2 : Float
1/2 = fin false 1 (negsuc 0)

apart : (s : Bool) (a b c : ℕ) → 0 < c → 2 * b ≤ 2 * a + c → 2 * a < 2 * b + c → Within (sum binary64 s a (not s) b c) 1/2
unfolding sum round
apart s a b c C low high = at s
  where
    one : (u : Bool) (k : ℕ) → k * 2 ≤ 1 * c → Within (round binary64 u k c) 1/2
    one u k l = round_within binary64 u k c 1 2 C (lit≤ tt) l tt

    go : (p q u : Bool) → Within (cond p (round binary64 q (b - a) c) (round binary64 u (a - b) c)) 1/2
    go true q u = one q (b - a) (omega arith)
    go false q u = one u (a - b) (omega arith)

    at : (s : Bool) → Within (sum binary64 s a (not s) b c) 1/2
    at true = go (ltb a b) false (ltb b a)
    at false = go (ltb a b) true false

half_off : (s : Bool) (m : ℕ) (e : ℤ) (r : Float) → RoundOf (fin s m e) r → Within (sub binary64 (fin s m e) r) 1/2
unfolding negative neg sub
half_off s m e nan o = absurd o.like.number
half_off s m e (inf t) o = absurd o.like.number
half_off s m e (fin t n d) o =
    let a = m * up e in
    let b = n * up d in
    subst (λ u. Within (sum binary64 s (a * down d) (not u) (b * down e) (down e * down d)) 1/2) (sym o.like.sign)
    (apart s (a * down d) (b * down e) (down e * down d) (mul-pos (down_pos e) (down_pos d))
    (above a b (down e) (down d) o.half_above)
    (below a b (down e) (down d) o.half_below))
  where
    above : (a b u v : ℕ) → 2 * b * u ≤ (2 * a + u) * v → 2 * (b * u) ≤ 2 * (a * v) + u * v
    above a b u v h = omega (arith, h)

    below : (a b u v : ℕ) → 2 * a * v < (2 * b + v) * u → 2 * (a * v) < 2 * (b * u) + u * v
    below a b u v h = omega (arith, h)

-- what rounding takes off is a half at most, whatever the number
pub rounding_off : (x : Float) → T (fits binary64 x) → Bounded (sub binary64 x (nearest ieee x)) 1/2
unfolding sub add nearest
rounding_off nan h t = absurd t
rounding_off (inf true) h t = absurd t
rounding_off (inf false) h t = absurd t
rounding_off (fin s m e) h t = half_off s m e (nearest ieee (fin s m e)) (round_value (fin s m e) h tt)

-- ---- the test

pub otherwise_inside : (x : Float) → is_finite x ≡ false → outside x ≡ false
unfolding is_finite beyond
otherwise_inside nan h = refl
otherwise_inside (inf s) h = refl
otherwise_inside (fin s m e) h = absurd (true≢false h)

pub outside_is : (x : Float) → is_finite x ≡ true → lt 64·0 (abs x) ≡ outside x
unfolding is_finite abs beyond
outside_is nan h = absurd (false≢true h)
outside_is (inf s) h = absurd (false≢true h)
outside_is (fin s m e) h = refl

-- what an answer comes to
pub is_refused : {X : Type 0} (x : Float) (v : X) → outside x ≡ true → refused 19 ≡ unless_outside x v
unfolding unless_outside
is_refused x v h = rw h

pub is_value : {X : Type 0} (x : Float) (v w : X) → outside x ≡ false → w ≡ v → answered w ≡ unless_outside x v
unfolding unless_outside
is_value x v w h e = rw (h, e)
