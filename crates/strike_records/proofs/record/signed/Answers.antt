-- `record::signed` meets its contract. Assumes nothing.
use mathlib.Core.Path.{◌≡◌, refl, ap, ◌∙◌}
use mathlib.Core.List.{List}
use Prim.Native.Nat.{ℕ, suc, ◌+◌, ◌-◌, ◌<◌, ◌≤◌}
use native.Mathlib.Nat.{add-zero}
use native.Mathlib.Omega.{arith}
use borrow.Author.Tests.{lt-ltb, le-ltb, ltb-true, ltb-false}
use mathlib.Core.Bool.{Bool, true, false}
use lib.Dec.{ltb}
use lib.IntN.{negsuc}
use lib.ListN.{take, drop}
use lib.Ieee.{binary64, of_int}
use mir.Val.{to_z, of_z}
use Rattle.std.specs.Int.{w32, from_be_bytes}
use Rattle.std.proofs.lemmas.Int.{of_z-to_z, to_z_pos}
use Rattle.std.proofs.Math.Facts.{to_z-neg}
use Rattle.arithmetic.specs.Arith.{ieee}
use Rattle.stores.specs.Slots.{run}
use Rattle.stores.proofs.ReadBack.{get_d_run}
use Rattle.strike_records.specs.Record.{four_at, signed}
use Rattle.strike_records.proofs.record.signed.Goals as goal

-- a number as it stands, and one that stands for a negative number
positive : (n : ℕ) → n < 2147483648 → of_int binary64 (to_z w32 n) ≡ signed ieee n
unfolding signed of_int
positive n h = rw (to_z_pos w32 n h, lt-ltb n 2147483648 h, signed)

below_zero : (n k : ℕ) → 2147483648 ≤ n → 4294967296 - n ≡ suc k → of_int binary64 (negsuc k) ≡ signed ieee n
unfolding signed of_int
below_zero n k h e = rw (le-ltb n 2147483648 h, signed, e)

negative : (n k : ℕ) → k < 2147483648 → n ≡ 4294967296 - suc k → of_int binary64 (to_z w32 n) ≡ signed ieee n
negative n k h e =
    ap (λ (m : ℕ). of_int binary64 (to_z w32 m)) e
    ∙ ap (of_int binary64) (to_z-neg w32 k h)
    ∙ below_zero n k (omega arith) (omega arith)

value : (n : ℕ) → n < 4294967296 → of_int binary64 (to_z w32 n) ≡ signed ieee n
value n h = by (ltb n 2147483648) refl
  where
    by : (b : Bool) → ltb n 2147483648 ≡ b → of_int binary64 (to_z w32 n) ≡ signed ieee n
    by true e = positive n (ltb-true n 2147483648 e)
    by false e = let l = ltb-false n 2147483648 e in negative n (4294967295 - n) (omega arith) (omega arith)

four_read : (b : List ℕ) (at : ℕ) → from_be_bytes w32 (run b at 4) ≡ four_at b at
four_read b at =
    let place = λ (i : ℕ) (l : i < 4). get_d_run b at 4 i 0 l in
    rw (place 0 (omega arith), place 1 (omega arith), place 2 (omega arith), place 3 (omega arith), add-zero at)

pub returns : goal.returns
returns c =
    let b = c.args.bytes.now in
    let at = c.args.at in
    let e : at + 4 - at ≡ 4 = omega arith in
    let four = c.copy_from_slice.ensures.after ∙ ap (λ (n : ℕ). take n (drop at b)) e in
    let number = c.from_be_bytes.ensures ∙ ap (λ (r : List ℕ). to_z w32 (from_be_bytes w32 r)) four ∙ ap (to_z w32) (four_read b at) in
    let byte = c.type_inv.bytes in
    let fits : four_at b at < 4294967296 = omega (arith, byte at, byte (at + 1), byte (at + 2), byte (at + 3)) in
    c.from.ensures
    ∙ ap (λ (n : ℕ). of_int binary64 (to_z w32 n)) (ap (of_z w32) number ∙ of_z-to_z w32 (four_at b at) fits)
    ∙ value (four_at b at) fits
