-- The square root, computed faster: Newton's method gives a whole number r, and r is tested by the squares of r and r + 1.
-- `qsqrt_is`: whatever the candidate, the result is `sqrt`'s. Assumes nothing.
use mathlib.Core.Path.{◌≡◌, refl, sym}
use Prim.Native.Nat.{ℕ, zero, suc, ◌+◌, ◌-◌, ◌*◌, ◌/◌, ◌%◌, ◌^◌, ◌≤◌, ◌<◌}
use native.Mathlib.Nat.{lt_of_lt_of_le, mul-le-mul}
use mathlib.Core.Bool.{Bool, true, false, ◌&&◌, cond}
use lib.Dec.{T, leb, ltb, leb→le, ltb→lt}
use lib.Ieee.{Float, nan, inf, fin, size}
use lib.Ieee.Fits.{and_l, and_r}
use Rattle.arithmetic.specs.Sqrt.{nearest_root, height, root_of, sqrt}
use Rattle.arithmetic.proofs.Root.{nearest_by}
use Rattle.arithmetic.proofs.Quick.Round.{either, qodd, qodd_is}

-- ---- the nearest whole number

-- Newton's method from an x above the root: at most d steps, as long as x gets smaller
unfoldable pub newton : ℕ → ℕ → ℕ → ℕ
newton zero n x = x
newton (suc d) n x = let y = (x + n / x) / 2 in elim (leb x y) [ true ↦ x | false ↦ newton d n y ]

unfoldable pub qroot : ℕ → ℕ → ℕ
unfolding newton nearest_root
qroot k n =
    let r = newton 9 n (2 ^ k) in
    elim (leb (r * r) n && (ltb n (suc r * suc r) && ltb r (2 ^ k))) [
      | true ↦ cond (ltb ((2 * r + 1) * (2 * r + 1)) (4 * n)) (suc r) r
      | false ↦ nearest_root k n
    ]

qroot_is : (k n : ℕ) → qroot k n ≡ nearest_root k n
unfolding qroot nearest_root
qroot_is k n = either (a && (b && c)) right refl
  where
    r : ℕ
    r = newton 9 n (2 ^ k)

    a : Bool
    a = leb (r * r) n

    b : Bool
    b = ltb n (suc r * suc r)

    c : Bool
    c = ltb r (2 ^ k)

    right : T (a && (b && c)) → ◌≡◌ {A = ℕ} (cond (ltb ((2 * r + 1) * (2 * r + 1)) (4 * n)) (suc r) r) (nearest_root k n)
    right t =
        let h = and_r a (b && c) t in
        let up : n < suc r * suc r = ltb→lt n (suc r * suc r) (and_l b c h) in
        let top : suc r ≤ 2 ^ k = ltb→lt r (2 ^ k) (and_r b c h) in
        sym (nearest_by k n (lt_of_lt_of_le up (mul-le-mul top top)) r (leb→le (r * r) n (and_l a (b && c) t), up))

-- ---- the root of a float

unfoldable pub qsqrt : Float → Float
unfolding qroot qodd size sqrt
qsqrt nan = nan
qsqrt (inf s) = sqrt (inf s)
qsqrt (fin s zero e) = fin s zero e
qsqrt (fin true (suc m) e) = nan
qsqrt (fin false (suc m) e) =
    let z = 53 - size (suc m) in
    let g = height e + 52 - z in
    qodd 54 false (qroot 53 (suc m * 2 ^ (z + 52 + g % 2))) (g / 2) 589

pub qsqrt_is : (x : Float) → qsqrt x ≡ sqrt x
unfolding qsqrt root_of
qsqrt_is nan = refl
qsqrt_is (inf s) = refl
qsqrt_is (fin true zero e) = refl
qsqrt_is (fin false zero e) = refl
qsqrt_is (fin true (suc m) e) = refl
qsqrt_is (fin false (suc m) e) = simp (qodd_is, qroot_is)
