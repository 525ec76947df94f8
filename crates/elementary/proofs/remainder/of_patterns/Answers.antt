-- `remainder::of_patterns` meets its contract: the remainder of the counts of the smallest value, whose common factor 2 ^ t.h is taken out.
-- Assumes nothing.
use mathlib.Core.Path.{◌≡◌}
use mathlib.Core.Bool.{false}
use Prim.Native.Nat.{ℕ, ◌≤◌, ◌<◌}
use native.Mathlib.Nat.{mod-lt}
use native.Mathlib.Omega.{arith}
use lib.Ieee.{binary64, lt, of_bits}
use lib.Ieee.Bits.{of_bits-fits}
use Rattle.elementary.proofs.Digits.{Split, split_is}
use Rattle.elementary.proofs.RemainderValues.{higher, made}
use Rattle.elementary.proofs.remainder.of_patterns.Goals as goal

-- the second pattern's places are no more than the first's
places : (p q m h n g : ℕ) → Split p m h → Split q n g → lt (of_bits binary64 p) (of_bits binary64 q) ≡ false → g ≤ h
places p q m h n g first second =
    higher (of_bits binary64 p) (of_bits binary64 q) m h n g first.is second.is first.few second.some second.full

pub overflow_sub-s : goal.overflow_sub-s
overflow_sub-s c =
    let a = c.args in
    let s = c.split-s in
    let t = c.split-t in
    let first : Split a.p s.result.m s.result.h = split_is _ _ _ s.ensures c.requires.0 c.requires.1 in
    let second : Split a.q t.result.m t.result.h = split_is _ _ _ t.ensures c.requires.2 c.requires.3 in
    places a.p a.q s.result.m s.result.h t.result.m t.result.h first second c.requires.4

pub shifted-r-requires : goal.shifted-r-requires
shifted-r-requires c =
    let first : Split c.args.p c.split-s.result.m c.split-s.result.h = split_is _ _ _ c.split-s.ensures c.requires.0 c.requires.1 in
    let second : Split c.args.q c.split-t.result.m c.split-t.result.h = split_is _ _ _ c.split-t.ensures c.requires.2 c.requires.3 in
    (first.few, second.some, second.few)

pub joined-requires : goal.joined-requires
joined-requires c =
    let second : Split c.args.q c.split-t.result.m c.split-t.result.h = split_is _ _ _ c.split-t.ensures c.requires.2 c.requires.3 in
    let l : c.shifted-r.result < c.split-t.result.m = rw c.shifted-r.ensures (mod-lt _ second.some) in
    (omega (arith, second.few), second.most)

pub returns : goal.returns
returns c =
    let p = c.args.p in
    let q = c.args.q in
    let s = c.split-s.result in
    let t = c.split-t.result in
    let r = c.shifted-r in
    let j = c.joined in
    let first : Split p s.m s.h = split_is _ _ _ c.split-s.ensures c.requires.0 c.requires.1 in
    let second : Split q t.m t.h = split_is _ _ _ c.split-t.ensures c.requires.2 c.requires.3 in
    let f = of_bits-fits binary64 in (
      j.ensures.0,
      made (of_bits binary64 p) (of_bits binary64 q) s.m s.h t.m t.h first.is second.is first.few second.some
          (of_bits binary64 j.result) r.result (f p) (f q) (f j.result)
          (places p q s.m s.h t.m t.h first second c.requires.4) r.ensures j.ensures.1,
    )
