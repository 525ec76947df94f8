-- `root::full_width` meets its contract. Assumes nothing.
use mathlib.Core.Path.{refl}
use mathlib.Core.Bool.{false}
use Prim.Native.Nat.{◌*◌, ◌^◌}
use native.Mathlib.Nat.{mod-eq_of_lt}
use native.Mathlib.Omega.{arith}
use lib.Ieee.{binary64, of_bits}
use Rattle.arithmetic.proofs.Count.{scale}
use Rattle.arithmetic.proofs.Width.{scaled_half}
use Rattle.elementary.proofs.Digits.{Split, split_is}
use Rattle.square_root.proofs.RootBits.{radicand_lo, radicand_hi}
use Rattle.square_root.proofs.root.full_width.Goals as goal

pub widened-n-requires : goal.widened-n-requires
widened-n-requires c =
    let s = c.split-p in
    let p : Split c.args.b s.result.m s.result.h = split_is _ _ _ s.ensures c.requires.0 c.requires.1 in
    (p.some, p.few, p.most)

pub returns-clause-is : goal.returns-clause-is
returns-clause-is c =
    let s = c.split-p.result in
    let p : Split c.args.b s.m s.h = split_is _ _ _ c.split-p.ensures c.requires.0 c.requires.1 in
    let w = c.widened-n.result in
    let wide = c.widened-n.ensures in
    let x = of_bits binary64 c.args.b in
    let h = scaled_half w.a w.g wide.0 wide.1 in
    record {
      a = w.a;
      g = w.g;
      lo = wide.0;
      hi = wide.1;
      top = wide.2;
      value = rw wide.3 (scale x false (s.m * 2 ^ s.h) (2 ^ 1074) (2 ^ 52) p.is);
      m_is = mod-eq_of_lt (omega arith);
      e_is = refl;
    }

pub returns-clause-width : goal.returns-clause-width
returns-clause-width c = let n = returns-clause-is c in (radicand_lo _ _ _ n, radicand_hi _ _ _ n)
