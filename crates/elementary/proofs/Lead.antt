-- A significand of at most 53 digits, shifted left by its leading zeros in a word of 64 beyond 11: it has 53 digits, and none is lost. Assumes nothing.
use mathlib.Core.Path.{◌≡◌}
use Prim.Native.Nat.{ℕ, suc, ◌+◌, ◌-◌, ◌*◌, ◌%◌, ◌^◌, ◌≤◌, ◌<◌}
use native.Mathlib.Nat.{lt_of_lt_of_le, lt_of_le_of_lt}
use native.Mathlib.Omega.{arith}
use lib.Count.{count_leading_zeros, leading_top}
use lib.Dec.{lit≤}
use lib.Pow.{shl_exact}
use Rattle.arithmetic.proofs.Powers.{power_lt, shifted_ge, shifted_lt}

abbrev pub shift : ℕ → ℕ
shift m = count_leading_zeros 64 m - 11

pub record Lead (m : ℕ) : Type 0 where
  pub zeros : 11 ≤ count_leading_zeros 64 m
  pub few : shift m ≤ 52
  pub whole : m * 2 ^ shift m % 2 ^ 64 ≡ m * 2 ^ shift m
  pub lo : 2 ^ 52 ≤ m * 2 ^ shift m
  pub hi : m * 2 ^ shift m < 2 ^ 53

pub lead : (m : ℕ) → 0 < m → m < 2 ^ 53 → Lead m
lead m p h =
    let t = leading_top 64 m p (lt_of_lt_of_le h (lit≤ tt)) in
    let j = t.0 in
    let e = t.1 in
    let l : j < 53 = power_lt j 53 (lt_of_le_of_lt t.2 h) in
    let f : j + shift m ≡ 52 = omega arith in
    record {
      zeros = omega arith;
      few = omega arith;
      whole = shl_exact {a = m} (suc j) (shift m) 64 t.3 (omega arith);
      lo = shifted_ge m j (shift m) t.2 t.3 52 f;
      hi = shifted_lt m j (shift m) t.2 t.3 52 f;
    }
