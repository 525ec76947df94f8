-- `line::write_bits` meets its contract. Assumes nothing.
use mathlib.Core.Path.{◌≡◌, ap, ◌∙◌}
use Prim.Native.Nat.{◌+◌}
use native.Mathlib.Omega.{arith}
use lib.Ieee.{binary64, to_bits}
use Rattle.stores.proofs.Runs.{put_marked}
use Rattle.strike_records.specs.Line.{SPACE, hex, bits_of}
use Rattle.strike_records.proofs.Written.{length_hex}
use Rattle.strike_records.proofs.line.write_bits.Goals as goal

pub returns : goal.returns
returns c =
    let a = c.args in
    let digits : c.write_hex.new.run ≡ bits_of a.x = c.write_hex.ensures ∙ ap (hex 16) c.bits.ensures in
    let sixteen = length_hex 16 (to_bits binary64 a.x) in
    record {
      end_is = omega (arith, sixteen);
      now_is = put_marked a.out.now a.at (a.at + 17) SPACE _ (bits_of a.x) (omega arith) digits (omega (arith, sixteen));
    }
