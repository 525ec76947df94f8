-- An arithmetic that computes four to five times as fast as `ieee`, and is equal to it (`quick_is`): what is computed in `quick` holds in `ieee` (`in_ieee`).
-- Its operations are written as in lib.Ieee, with `qround` for `round`. A declaration that computes in it says `unfolding quick`. Assumes nothing.
pub mod Round
pub mod Sqrt
use mathlib.Core.Path.{◌≡◌, refl, subst}
use Prim.Native.Nat.{ℕ, suc, ◌+◌, ◌-◌, ◌*◌, ◌%◌}
use mathlib.Core.Bool.{Bool, not, ◌&&◌, beq, cond}
use lib.IntN.{ℤ, pos, negsuc}
use lib.Dec.{ltb, eqb}
use lib.Ieee.{Float, nan, inf, fin, binary64, up, down, unlike, neg, sum, add, sub, mul, div, rem}
use Rattle.arithmetic.specs.Arith.{Arith, ieee}
use Round.{digits, qround, qround_is}
use Sqrt.{qsqrt, qsqrt_is}

-- q on two finite values, and f on any others
unfoldable pub on_finite : (Float → Float → Float) → (Bool → ℕ → ℤ → Bool → ℕ → ℤ → Float) → Float → Float → Float
on_finite f q nan y = f nan y
on_finite f q (inf s) y = f (inf s) y
on_finite f q (fin s m e) nan = f (fin s m e) nan
on_finite f q (fin s m e) (inf t) = f (fin s m e) (inf t)
on_finite f q (fin s m e) (fin t n d) = q s m e t n d

on_finite_is : {f : Float → Float → Float} {q : Bool → ℕ → ℤ → Bool → ℕ → ℤ → Float}
    → ((s : Bool) (m : ℕ) (e : ℤ) (t : Bool) (n : ℕ) (d : ℤ) → q s m e t n d ≡ f (fin s m e) (fin t n d)) → on_finite f q ≡ f
unfolding on_finite
on_finite_is {f} {q} h = λ i x y. go x y i
  where
    go : (x y : Float) → on_finite f q x y ≡ f x y
    go nan y = refl
    go (inf s) y = refl
    go (fin s m e) nan = refl
    go (fin s m e) (inf t) = refl
    go (fin s m e) (fin t n d) = h s m e t n d

-- down e is 2 ^ fall e
abbrev pub fall : ℤ → ℕ
fall (pos k) = 0
fall (negsuc k) = suc k

-- ± a / c + ± b / c, where c is 2 ^ z
unfoldable pub qsum : ℕ → Bool → ℕ → Bool → ℕ → ℕ → Float
unfolding qround
qsum z s a t b c = cond (beq s t) (qround z s (a + b) c) (cond (ltb a b) (qround z t (b - a) c) (qround z (s && ltb b a) (a - b) c))

unfoldable pub quick : Arith
unfolding on_finite qsum qround digits add sub mul div rem qsqrt
quick =
    record {
      ◌⊕◌ = on_finite (add binary64) (λ s m e t n d. qsum (fall e + fall d) s (m * up e * down d) t (n * up d * down e) (down e * down d));
      ◌⊖◌ = on_finite (sub binary64) (λ s m e t n d. qsum (fall e + fall d) s (m * up e * down d) (not t) (n * up d * down e) (down e * down d));
      ◌⊗◌ = on_finite (mul binary64) (λ s m e t n d. qround (fall e + fall d) (unlike s t) (m * up e * (n * up d)) (down e * down d));
      ◌⊘◌ = on_finite (div binary64) (λ s m e t n d. let b = n * up d * down e in
          cond (eqb n 0) (cond (eqb m 0) nan (inf (unlike s t))) (qround (digits b - 1) (unlike s t) (m * up e * down d) b));
      remainder = on_finite (rem binary64) (λ s m e t n d. cond (eqb n 0) nan
          (qround (fall e + fall d) s (m * up e * down d % (n * up d * down e)) (down e * down d)));
      root = qsqrt;
      whole = λ s n. qround 0 s n 1;
    }

pub quick_is : quick ≡ ieee
unfolding quick add sub neg sum mul div rem
quick_is =
    let plus : quick.◌⊕◌ ≡ add binary64 = on_finite_is (λ s m e t n d. simp qround_is) in
    let less : quick.◌⊖◌ ≡ sub binary64 = on_finite_is (λ s m e t n d. simp qround_is) in
    let times : quick.◌⊗◌ ≡ mul binary64 = on_finite_is (λ s m e t n d. simp qround_is) in
    let over : quick.◌⊘◌ ≡ div binary64 = on_finite_is (λ s m e t n d. simp qround_is) in
    let rest : quick.remainder ≡ rem binary64 = on_finite_is (λ s m e t n d. simp qround_is) in
    λ i. record { ◌⊕◌ = plus i; ◌⊖◌ = less i; ◌⊗◌ = times i; ◌⊘◌ = over i; remainder = rest i; root = λ x. qsqrt_is x i; whole = λ s n. qround_is 0 s n 1 i }

-- what holds in `quick`, perhaps by computation, holds in `ieee`
pub in_ieee {ℓ} : (P : Arith → Type ℓ) → P quick → P ieee
in_ieee P h = subst P quick_is h
