-- Floor and round on values, for every finite x: `floor` is the whole number r with r ≤ x < r + 1, `round` the nearest, halves away
-- from zero (specs/Values). Assumes nothing.
use Rattle.std.proofs.Common.{◌≡◌, ℕ, suc, ◌+◌, ◌-◌, ◌*◌, ◌%◌, ◌^◌, ◌<◌, ◌≤◌, Bool, true, false, T, ◌⊎◌, sym, refl, ap, ◌∙◌, subst, inl, inr, le_trans, le_refl, mul-le-mul_right, mod-lt, div-lt_iff_lt-mul, eq-zero-or-pos, mul-lt-mul_of_pos_right, div-add-mod', mul-one, div-mul-le_self, arith, lit≤}
use native.Mathlib.Nat.{mul-mod_left, ne_of_gt}
use lib.Ieee.{Float, nan, inf, fin, binary64, fits}
use lib.Ieee.{round as rounded}
use lib.Ieee.Back.{round_whole as float-of-whole}
use lib.Ieee.Exact.{HasValue}
use lib.Ieee.Fits.{round-fits}
use lib.Ieee.Positive.{num, den, den_pos}
use lib.Ieee.Scale.{finite}
use Rattle.arithmetic.specs.Arith.{ieee}
use Rattle.elementary.specs.Signs.{negative}
use Rattle.elementary.specs.Values.{WholeLike, AtMost, BelowNext, FloorOf, RoundOf}
use Rattle.elementary.specs.Whole.{floor_size, round_size, floor, round}
use Rattle.elementary.proofs.Fraction.{fraction_small, floor_whole, floor_part, round_whole, round_part, cut_back, cut_lt, up_whole, up_part, round_back, round_size_le}

-- ---- a whole number of the size k

pub record Sized (x r : Float) (k : ℕ) : Type 0 where
  pub like : WholeLike x r
  pub size : num r ≡ k * den r

sized : (x r : Float) (k : ℕ) → T (fits binary64 r) → HasValue r (negative x) k 1 → Sized x r k
unfolding negative
sized x nan k h v = absurd v
sized x (inf s) k h v = absurd v
sized x (fin s m e) k h v =
    let n : num (fin s m e) ≡ k * den (fin s m e) = sym (mul-one (num (fin s m e))) ∙ v.1 in
    record { like = record { number = tt; held = h; whole = ap (λ i. i % den (fin s m e)) n ∙ mul-mod_left k (den (fin s m e)); sign = v.0 }; size = n }

own : (x : Float) (k : ℕ) → T (fits binary64 x) → T (finite x) → num x % den x ≡ 0 → k * den x ≡ num x → Sized x x k
own x k h f z e = record { like = record { number = f; held = h; whole = z; sign = refl }; size = sym e }

made : (x : Float) (k : ℕ) → k ≤ 2 ^ 53 → Sized x (rounded binary64 (negative x) k 1) k
made x k l = sized x (rounded binary64 (negative x) k 1) k (round-fits binary64 (negative x) k 1) (float-of-whole binary64 (negative x) k l)

-- ---- floor

abbrev Floored : Bool → ℕ → ℕ → ℕ → Type 0
Floored false n d k = (k * d ≤ n) × (n < suc k * d)
Floored true n d k = (n ≤ k * d) × (k * d < n + d)

floored : (s : Bool) (x r : Float) (k : ℕ) → num r ≡ k * den r → Floored s (num x) (den x) k → AtMost s r x × BelowNext s x r
floored false x r k e h =
    let a : k * den x * den r ≤ num x * den r = mul-le-mul_right (den r) h.0 in
    let b : num x * den r < suc k * den x * den r = mul-lt-mul_of_pos_right h.1 (den_pos r) in
    rw e (omega arith, omega arith)
floored true x r k e h =
    let a : num x * den r ≤ k * den x * den r = mul-le-mul_right (den r) h.0 in
    let b : k * den x * den r < (num x + den x) * den r = mul-lt-mul_of_pos_right h.1 (den_pos r) in
    rw e (omega arith, omega arith)

floor_of : (x r : Float) (k : ℕ) → Sized x r k → Floored (negative x) (num x) (den x) k → FloorOf x r
floor_of x r k z h = let f = floored (negative x) x r k z.size h in record { like = z.like; at_most = f.0; below_next = f.1 }

module _ (n d : ℕ) (D : 0 < d) where
  floor_size_lem : (s : Bool) → Floored s n d (floor_size s n d)
  floor_size_lem false = let b = div-add-mod' n d in let l = mod-lt n D in (omega arith, omega arith)
  floor_size_lem true = let b = div-add-mod' (n + d - 1) d in let l = mod-lt (n + d - 1) D in (omega arith, omega arith)

  size_whole : (s : Bool) → n % d ≡ 0 → floor_size s n d * d ≡ n
  size_whole false z = cut_back n d D z
  size_whole true z = ap (λ k. k * d) (up_whole n d D z) ∙ cut_back n d D z

  size_le : (s : Bool) → (n % d ≡ 0 → ⊥) → n < 2 ^ 52 * d → floor_size s n d ≤ 2 ^ 53
  size_le false z h = omega (arith, cut_lt n d D h)
  size_le true z h = omega (arith, up_part n d D z, cut_lt n d D h)

module _ (x : Float) (h : T (fits binary64 x)) (f : T (finite x)) where
  abbrev size_of : ℕ
  size_of = floor_size (negative x) (num x) (den x)

  pub floor_sized : Sized x (floor ieee x) (floor_size (negative x) (num x) (den x))
  floor_sized = go (eq-zero-or-pos (num x % den x))
    where
      go : (num x % den x ≡ 0) ⊎ (0 < num x % den x) → Sized x (floor ieee x) size_of
      go (inl z) = subst (λ r. Sized x r size_of) (floor_whole x z) (own x size_of h f z (size_whole (num x) (den x) (den_pos x) (negative x) z))
      go (inr p) =
          let z = ne_of_gt p in
          let l = size_le (num x) (den x) (den_pos x) (negative x) z (fraction_small x h z) in
          subst (λ r. Sized x r size_of) (floor_part x (negative x) size_of z refl refl) (made x size_of l)

  pub floor_value : FloorOf x (floor ieee x)
  floor_value = floor_of x (floor ieee x) size_of floor_sized (floor_size_lem (num x) (den x) (den_pos x) (negative x))

-- ---- round

round_of : (x r : Float) → Sized x r (round_size (num x) (den x)) → RoundOf x r
round_of x r z =
    let n = num x in
    let d = den x in
    let k = round_size n d in
    let D : 0 < 2 * d = omega (arith, den_pos x) in
    let a : k * (2 * d) * den r ≤ (2 * n + d) * den r = mul-le-mul_right (den r) (div-mul-le_self (2 * n + d) (2 * d)) in
    let next : 2 * n + d < suc k * (2 * d) = (div-lt_iff_lt-mul D).0 (le_refl (suc (round_size n d))) in
    let b : (2 * n + d) * den r < suc k * (2 * d) * den r = mul-lt-mul_of_pos_right next (den_pos r) in
    record { like = z.like; half_above = rw z.size (omega arith); half_below = rw z.size (omega arith) }

pub round_value : (x : Float) → T (fits binary64 x) → T (finite x) → RoundOf x (round ieee x)
round_value x h f = go (eq-zero-or-pos (num x % den x))
  where
    go : (num x % den x ≡ 0) ⊎ (0 < num x % den x) → RoundOf x (round ieee x)
    go (inl z) = subst (RoundOf x) (round_whole x z) (round_of x x (own x (round_size (num x) (den x)) h f z (round_back (num x) (den x) (den_pos x) z)))
    go (inr p) =
        let k = round_size (num x) (den x) in
        let l : k ≤ 2 ^ 53 = le_trans (round_size_le (num x) (den x) (den_pos x) (fraction_small x h (ne_of_gt p))) (lit≤ tt) in
        subst (RoundOf x) (round_part x (negative x) k (ne_of_gt p) refl refl) (round_of x (rounded binary64 (negative x) k 1) (made x k l))
