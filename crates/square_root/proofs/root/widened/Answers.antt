-- `root::widened` meets its contract. Assumes nothing.
use mathlib.Core.Path.{refl, ap, ◌∙◌}
use Prim.Native.Nat.{ℕ, ◌+◌, ◌-◌, ◌*◌, ◌^◌}
use native.Mathlib.Omega.{arith}
use Rattle.arithmetic.proofs.Powers.{apart}
use Rattle.arithmetic.proofs.Width.{moved}
use Rattle.elementary.proofs.Lead.{Lead, shift, lead}
use Rattle.square_root.proofs.root.widened.Goals as goal
use Rattle.square_root.proofs.root.widened.Goals.{Else-m-ge4503599627370496}

pub returns-then-m-ge4503599627370496 : goal.returns-then-m-ge4503599627370496
returns-then-m-ge4503599627370496 c =
    let m = c.args.m in
    let h = c.args.h in
    (c.if-m-ge4503599627370496.true, c.requires.1, omega arith, apart m (h + 52) h 52 refl)

known : (c : Else-m-ge4503599627370496) → Lead c.args.m
known c = lead c.args.m c.requires.0 c.requires.1

pub overflow_sub-z : goal.overflow_sub-z
overflow_sub-z c = omega (arith, (known c.before).zeros)

pub returns : goal.returns
returns c =
    let m = c.args.m in
    let h = c.args.h in
    let k = known c.before in (
      rw (c.from-z.ensures, k.whole) k.lo,
      rw (c.from-z.ensures, k.whole) k.hi,
      omega arith,
      rw c.from-z.ensures (ap (λ (x : ℕ). x * 2 ^ (h + 52 - shift m)) k.whole ∙ moved m h (shift m) k.few),
    )
