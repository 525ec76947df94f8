-- `big_endian::read_double` meets its contract. Assumes nothing.
use mathlib.Core.Path.{◌≡◌, ap, ◌∙◌}
use Prim.Native.Nat.{ℕ, ◌+◌, ◌-◌}
use native.Mathlib.Omega.{arith}
use lib.Ieee.{binary64, of_bits}
use lib.ListN.{take, drop, length-take, length-drop}
use Rattle.std.specs.Int.{w64, from_be_bytes}
use Rattle.answer.specs.BigEndian.{double_in}
use Rattle.answer.proofs.Bytes.{eight_read}
use Rattle.answer.proofs.big_endian.read_double.Goals as goal

pub returns : goal.returns
unfolding double_in
returns c =
    let bytes = c.args.bytes.now in
    let at = c.args.at in
    let e : at + 8 - at ≡ 8 = omega arith in
    let eight = c.copy_from_slice.ensures.after ∙ ap (λ (n : ℕ). take n (drop at bytes)) e in
    let bits = c.from_be_bytes.ensures ∙ ap (from_be_bytes w64) eight ∙ eight_read _ (simp (length-take, length-drop) (omega arith)) in
    c.value.ensures ∙ ap (of_bits binary64) bits
