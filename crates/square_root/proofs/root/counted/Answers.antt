-- `root::counted` meets its contract. Assumes nothing.
use mathlib.Core.Path.{sym, ap, ◌∙◌}
use Prim.Native.Nat.{◌*◌, ◌^◌}
use native.Mathlib.Omega.{arith}
use lib.Ieee.{binary64, of_bits}
use lib.Ieee.Bits.{of_bits-fits}
use Rattle.arithmetic.specs.Rounds.{sqrt_rounds}
use Rattle.arithmetic.specs.Sqrt.{sqrt}
use Rattle.arithmetic.proofs.Rounds.{rounds_elsewhere}
use Rattle.square_root.proofs.Round.{rounds_are}
use Rattle.square_root.proofs.RootBits.{radicand_is, radicand_wide}
use Rattle.square_root.proofs.root.counted.Goals as goal

pub returns-in_default : goal.returns-in_default
returns-in_default c = (c.root_elsewhere-root.ensures, sym (rounds_elsewhere c.args.x c.in_default.ensures))

pub returns : goal.returns
returns c =
    let is = c.in-Some.ensures.is in
    let value = of_bits binary64 c.in-Some.b in
    let m = c.full_width-n.result.m in
    let e = c.full_width-n.result.e in
    let n = c.full_width-n.ensures.is in
    let d = c.digits_from-d.result in
    let ended = c.digits_from-d.ensures in (
      c.root_value.ensures ∙ ap sqrt is,
      rounds_are (m * 2 ^ 52) d.t d.y d.r d.rounds ended.0 value (of_bits-fits binary64 c.in-Some.b) n.a n.g
          (radicand_wide value m e n) (radicand_is value m e n) (omega arith) (omega arith) ended.1
          ∙ ap sqrt_rounds is,
    )
