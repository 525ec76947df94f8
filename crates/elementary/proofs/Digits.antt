-- What a pattern's digits and places say of its value, where that is finite and above zero. Assumes nothing.
use mathlib.Core.Path.{◌≡◌, refl, subst}
use mathlib.Core.Bool.{Bool, true, false, cond}
use Prim.Native.Nat.{ℕ, ◌+◌, ◌-◌, ◌*◌, ◌/◌, ◌%◌, ◌^◌, ◌≤◌, ◌<◌}
use native.Mathlib.Omega.{arith}
use borrow.Author.Tests.{eqb-true, eqb-false}
use lib.Dec.{eqb}
use lib.Ieee.{binary64, of_bits}
use lib.Ieee.Exact.{HasValue}
use Rattle.arithmetic.proofs.Count.{low_count, count_at}
use Rattle.elementary.specs.Parts.{digits, places}

-- it is m * 2 ^ h of the smallest value, and m has all 53 digits, or h is 0
pub record Split (b m h : ℕ) : Type 0 where
  pub some : 0 < m
  pub few : m < 2 ^ 53
  pub most : h ≤ 2045
  pub is : HasValue (of_bits binary64 b) false (m * 2 ^ h) (2 ^ 1074)
  pub full : 0 < h → 2 ^ 52 ≤ m

by_exponent : (b : ℕ) → 0 < b → b < 2047 * 2 ^ 52 → (low : Bool) → eqb (b / 2 ^ 52) 0 ≡ low
    → Split b (cond low (b % 2 ^ 52) (2 ^ 52 + b % 2 ^ 52)) (b / 2 ^ 52 - 1)
by_exponent b lo hi true e =
    let z = eqb-true (b / 2 ^ 52) 0 e in
    let h : 0 ≡ b / 2 ^ 52 - 1 = omega (arith, z) in
    record {
      some = omega (arith, z);
      few = omega arith;
      most = omega (arith, z);
      is = subst (λ (h : ℕ). HasValue (of_bits binary64 b) false (b % 2 ^ 52 * 2 ^ h) (2 ^ 1074)) h (low_count b (omega arith) z);
      full = λ some. absurd (omega (arith, z));
    }
by_exponent b lo hi false e =
    let z = eqb-false (b / 2 ^ 52) 0 e in
    let x : b ≡ (b / 2 ^ 52 - 1 + 1) * 2 ^ 52 + b % 2 ^ 52 = omega (arith, z) in
    record {
      some = omega arith;
      few = omega arith;
      most = omega arith;
      is = count_at b (omega arith) (b / 2 ^ 52 - 1) (b % 2 ^ 52) (omega (arith, x)) (omega arith) (omega (arith, z));
      full = λ some. omega arith;
    }

pub split_is : (b m h : ℕ) → (m ≡ digits b) × (h ≡ places b) → 0 < b → b < 2047 * 2 ^ 52 → Split b m h
unfolding digits places
split_is b m h r lo hi = rw (r.0, r.1) (by_exponent b lo hi (eqb (b / 2 ^ 52) 0) refl)
