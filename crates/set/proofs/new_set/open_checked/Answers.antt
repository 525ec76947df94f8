-- `new_set::open_checked` meets its contract: it is refused for its rows, or opens. Assumes nothing.
use mathlib.Core.Path.{sym, ap, ◌∙◌}
use Prim.Native.Nat.{ℕ}
use lib.ListN.{replicate}
use lib.Ieee.{of_bits}
use Rattle.arithmetic.specs.Arith.{ieee}
use Rattle.arithmetic.specs.Numbers.{0·0}
use Rattle.crs.specs.Frame.{frame_rows}
use Rattle.set.proofs.Lengths.{with_passed}
use Rattle.set.proofs.Front.{front_length, front_is}
use Rattle.set.proofs.Opening.{open_rows, open_opened}
use Rattle.set.proofs.new_set.open_checked.Goals as goal

pub invariant_of-sound : goal.invariant_of-sound
invariant_of-sound c = record { sound = (with_passed ieee _ _ c.requires).1 }

pub returns-then-used-ne-FRAME : goal.returns-then-used-ne-FRAME
returns-then-used-ne-FRAME c =
    let refused = open_rows ieee _ _ c.requires (λ e. c.if-used-ne-FRAME.true (c.build_frame-used.ensures.used ∙ e)) in
    record { answer = sym refused; left = rw refused }

pub slice_bounds-copy_from_slice-end : goal.slice_bounds-copy_from_slice-end
slice_bounds-copy_from_slice-end c =
    sym (front_length _ (frame_rows ieee c.args.table.now) _ _ c.build_frame-used.ensures.rows (sym c.build_frame-used.ensures.used ∙ c.if-used-ne-FRAME.false))

pub copy_from_slice-requires : goal.copy_from_slice-requires
copy_from_slice-requires c =
    (with_passed ieee _ _ c.requires).0.frame ∙ sym (front_length _ (frame_rows ieee c.args.table.now) _ _ c.build_frame-used.ensures.rows
    (sym c.build_frame-used.ensures.used ∙ c.if-used-ne-FRAME.false))

pub returns : goal.returns
unfolding of_bits
returns c =
    let long = (with_passed ieee _ _ c.requires).0 in
    let count = sym c.build_frame-used.ensures.used ∙ c.if-used-ne-FRAME.false in
    let opened = open_opened ieee _ _ c.requires count in
    let rows-copied = c.copy_from_slice.ensures.after ∙ front_is _ (frame_rows ieee c.args.table.now) _ _ c.build_frame-used.ensures.rows count in
    let faces-cleared = c.fill.ensures.after (λ y e. e) ∙ ap (λ (n : ℕ). replicate n 0·0) long.faces in
    let spheres-cleared = c.fill-2.ensures.after (λ y e. e) ∙ ap (λ (n : ℕ). replicate n 0·0) long.spheres in
    record { answer = sym opened; left = rw (opened, rows-copied, faces-cleared, spheres-cleared) }
