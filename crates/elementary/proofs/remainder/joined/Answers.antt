-- `remainder::joined` meets its contract. Assumes nothing.
use mathlib.Core.Path.{◌≡◌}
use Prim.Native.Nat.{◌-◌, ◌*◌, ◌%◌, ◌^◌, ◌<◌, ◌≤◌}
use native.Mathlib.Nat.{mod-eq_of_lt}
use native.Mathlib.Omega.{arith}
use Rattle.elementary.proofs.Lead.{Lead, shift, lead}
use Rattle.arithmetic.proofs.Powers.{apart}
use Rattle.elementary.proofs.RemainderPlaces.{fewer, low_joined, high_joined}
use Rattle.elementary.proofs.remainder.joined.Goals as goal
use Rattle.elementary.proofs.remainder.joined.Goals.{Else-r-eq0}

known : (c : Else-r-eq0) → Lead c.args.r
known c = lead c.args.r (omega (arith, c.if-r-eq0.false)) c.requires.0

pub overflow_sub-z : goal.overflow_sub-z
overflow_sub-z c = omega (arith, (known c.before).zeros)

pub returns-then-g-z : goal.returns-then-g-z
returns-then-g-z c =
    let r = c.args.r in
    let g = c.args.g in
    let l : g < shift r = rw c.from-z.ensures at c.if-g-z.true in
    let h : r * 2 ^ g < 2 ^ 52 = fewer r g (shift r) l (known c.before.before).hi in
    let e : r * 2 ^ g % 2 ^ 64 ≡ r * 2 ^ g = mod-eq_of_lt (omega arith) in
    (omega arith, low_joined (r * 2 ^ g % 2 ^ 64) (r * 2 ^ g) (omega arith) e)

pub overflow_add-result : goal.overflow_add-result
overflow_add-result c = let k = known c.before.before in rw c.from-z.ensures (omega (arith, k.whole, k.hi))

pub returns : goal.returns
returns c =
    let r = c.args.r in
    let g = c.args.g in
    let k = known c.before.before in
    let z = shift r in
    let l : z ≤ g = rw c.from-z.ensures at c.if-g-z.false in
    let e : (g - z) * 2 ^ 52 % 2 ^ 64 ≡ (g - z) * 2 ^ 52 = mod-eq_of_lt (omega arith) in
    rw c.from-z.ensures (
      omega (arith, k.whole, k.hi),
      rw (e, k.whole, apart r g z (g - z) (omega arith)) (high_joined (r * 2 ^ z) (g - z) k.lo k.hi (omega arith)),
    )
