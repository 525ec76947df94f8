-- `add_to_parts` meets its contract, by the four ways in which an addition ends (`Ways`). Assumes nothing.
use mathlib.Core.Path.{subst}
use Prim.Native.Nat.{ℕ, ◌<◌, ◌≤◌}
use Rattle.answer.specs.declared.Refusal.TheVariants as refusal
use Rattle.window.specs.Window.{window_of}
use Rattle.window.proofs.Ways.{no_origin, too_early, no_room, has_room, leaves, adds, counts_remaining, builds_window}
use Rattle.window.proofs.add_to_parts.Goals as goal

pub returns-then-origin-gt-LAST_ORIGIN : goal.returns-then-origin-gt-LAST_ORIGIN
returns-then-origin-gt-LAST_ORIGIN c =
    rw c.refused.ensures (leaves _ _ _ refusal.UnknownOrigin (no_origin _ _ _ c.if-origin-gt-LAST_ORIGIN.true))

pub returns-then-minute-state : goal.returns-then-minute-state
returns-then-minute-state c =
    rw c.refused-then-minute-state.ensures
    (leaves _ _ _ refusal.EarlierMinute (too_early _ _ _ c.if-origin-gt-LAST_ORIGIN.false c.if-minute-state.true))

pub returns-then-k-ge-MOST : goal.returns-then-k-ge-MOST
returns-then-k-ge-MOST c =
    let a = c.args in
    let w = window_of a.minutes.now a.origins.now a.counts.now a.state in
    let k = counts_remaining w a.minute _ _ c.min-n.ensures c.remaining-k.ensures in
    rw c.refused-then-k-ge-MOST.ensures
    (leaves w a.minute a.origin refusal.WindowFull
    (no_room w a.minute a.origin c.if-origin-gt-LAST_ORIGIN.false c.if-minute-state.false (subst (λ (n : ℕ). 4096 ≤ n) k c.if-k-ge-MOST.true)))

pub returns : goal.returns
returns c =
    let a = c.args in
    let w = window_of a.minutes.now a.origins.now a.counts.now a.state in
    let n = c.min-n.ensures in
    let k = counts_remaining w a.minute _ _ n c.remaining-k.ensures in
    adds w a.minute a.origin _
    (builds_window w a.minute a.origin _ _ _ _ _ n k c.saturating_sub-gone.ensures c.lower_counts.ensures c.raise_count.ensures)
    (has_room w a.minute a.origin c.if-origin-gt-LAST_ORIGIN.false c.if-minute-state.false (subst (λ (i : ℕ). i < 4096) k c.if-k-ge-MOST.false))
