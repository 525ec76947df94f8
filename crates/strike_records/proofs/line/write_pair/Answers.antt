-- `line::write_pair` meets its contract. Assumes nothing.
use mathlib.Core.Path.{refl}
use mathlib.Core.List.{[], ◌∷◌, append_assoc}
use Prim.Native.Nat.{◌+◌}
use native.Mathlib.Omega.{arith}
use lib.Ieee.{binary64, to_bits}
use lib.ListN.{length-append}
use Rattle.strike_records.specs.Line.{SPACE, NEWLINE, bits_of, fields}
use Rattle.strike_records.proofs.Written.{writes_as, writes_more, writes_store, length_hex}
use Rattle.strike_records.proofs.line.write_pair.Goals as goal

pub write_bits-end-requires : goal.write_bits-end-requires
write_bits-end-requires c =
    let first = c.write_bits-second in
    omega (arith, first.ensures.end_is, first.auto.out, length_hex 16 (to_bits binary64 c.args.x))

pub bounds-out-end : goal.bounds-out-end
bounds-out-end c =
    let first = c.write_bits-second in
    let second = c.write_bits-end in
    let sixteen = length_hex 16 (to_bits binary64 c.args.x) in
    let sixteen-more = length_hex 16 (to_bits binary64 c.args.y) in
    omega (arith, first.ensures.end_is, first.auto.out, second.ensures.end_is, second.auto.out, sixteen, sixteen-more)

pub overflow_add-result : goal.overflow_add-result
overflow_add-result c = omega (arith, bounds-out-end c)

pub returns : goal.returns
returns c =
    let a = c.args in
    let first = c.write_bits-second in
    let second = c.write_bits-end in
    let sixteen = length_hex 16 (to_bits binary64 a.x) in
    let sixteen-more = length_hex 16 (to_bits binary64 a.y) in
    let both = writes_more first.ensures (SPACE ∷ bits_of a.y) second.new.out second.result (omega arith) second.ensures in
    let line = writes_store both NEWLINE (second.result + 1) (simp length-append (omega arith)) refl in
    writes_as line (fields (bits_of a.x ∷ bits_of a.y ∷ [])) (simp append_assoc)
