-- The numbers of document 01, "Elementary steps". The named ones are Rust's `std::f64::consts`, by their bits; the decimal form stands
-- beside them. Definitions only.
use Rattle.std.specs.Prelude.{ℕ, zero, suc, ◌*◌, false, List, [], ◌∷◌, map, Float}
use Rattle.std.specs.Float.{binary64}
use Rattle.std.specs.Float.Ieee.{round, div, of_bits}
use Rattle.arithmetic.specs.Numbers.{1·0}

-- 6.283185307179586
unfoldable pub TAU : Float
unfolding of_bits
TAU = of_bits binary64 0x4019_21fb_5444_2d18

-- 3.141592653589793
unfoldable pub PI : Float
unfolding of_bits
PI = of_bits binary64 0x4009_21fb_5444_2d18

-- 1.5707963267948966
unfoldable pub FRAC_PI_2 : Float
unfolding of_bits
FRAC_PI_2 = of_bits binary64 0x3ff9_21fb_5444_2d18

-- 0.6366197723675814
unfoldable pub FRAC_2_PI : Float
unfolding of_bits
FRAC_2_PI = of_bits binary64 0x3fe4_5f30_6dc9_c883

-- 6.123233995736766e-17, nearly what FRAC_PI_2 leaves out of π / 2
unfoldable pub PI_2_REST : Float
unfolding of_bits
PI_2_REST = of_bits binary64 0x3c91_a626_3314_5c07

unfoldable pub factorial : ℕ → ℕ
factorial zero = 1
factorial (suc n) = suc n * factorial n

-- 1 / n in one division, n being a whole number that the format holds
unfoldable pub inverse : ℕ → Float
unfolding div round
inverse n = div binary64 1·0 (round binary64 false n 1)

-- sine: c(17), then c(k) for k = 15, 13 .. 1, where c(k) = 1 / k!
unfoldable pub sine_first : Float
unfolding inverse factorial
sine_first = inverse (factorial 17)

unfoldable pub sine_rest : List Float
unfolding inverse factorial
sine_rest = map (λ k. inverse (factorial k)) (15 ∷ 13 ∷ 11 ∷ 9 ∷ 7 ∷ 5 ∷ 3 ∷ 1 ∷ [])

-- cosine: c(16), then c(k) for k = 14, 12 .. 0
unfoldable pub cosine_first : Float
unfolding inverse factorial
cosine_first = inverse (factorial 16)

unfoldable pub cosine_rest : List Float
unfolding inverse factorial
cosine_rest = map (λ k. inverse (factorial k)) (14 ∷ 12 ∷ 10 ∷ 8 ∷ 6 ∷ 4 ∷ 2 ∷ 0 ∷ [])

-- Core: 1/25, then 1/k for k = 23, 21 .. 1
unfoldable pub core_first : Float
unfolding inverse
core_first = inverse 25

unfoldable pub core_rest : List Float
unfolding inverse
core_rest = map inverse (23 ∷ 21 ∷ 19 ∷ 17 ∷ 15 ∷ 13 ∷ 11 ∷ 9 ∷ 7 ∷ 5 ∷ 3 ∷ 1 ∷ [])
