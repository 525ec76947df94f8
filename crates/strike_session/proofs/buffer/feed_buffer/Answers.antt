-- `buffer::feed_buffer` meets its contract: the bytes of the buffer are fed, and what was not taken of them is moved to its start.
-- Assumes nothing.
use mathlib.Core.Path.{◌≡◌, sym, ap, ◌∙◌}
use mathlib.Core.List.{List}
use Prim.Native.Nat.{ℕ, ◌+◌, ◌-◌, ◌≤◌, min}
use native.Mathlib.Nat.{zero-add}
use native.Mathlib.Omega.{arith}
use borrow.Author.Rules.{rules}
use lib.ListN.{length, take, drop, length-take, length-drop}
use lib.Seq.{length-take-le}
use Rattle.std.proofs.lemmas.List.{drop-take, take_min}
use Rattle.std.specs.List.{copy_within}
use Rattle.arithmetic.specs.Arith.{ieee}
use Rattle.origin.specs.Origins.{ORIGINS}
use Rattle.set.specs.Lent.{held}
use Rattle.stores.specs.Slots.{put}
use Rattle.strike_records.specs.Writes.{Writes, change}
use Rattle.strike_session.specs.Pieces.{fed, left_over}
use Rattle.strike_records.proofs.Written.{writes_as}
use Rattle.strike_session.proofs.Results.{feeds_as}
use Rattle.strike_session.proofs.buffer.feed_buffer.Goals as goal

left_length : (b : List ℕ) (taken filled : ℕ) → length (left_over b taken filled) ≡ min filled (length b) - taken
left_length b taken filled = simp (length-drop, length-take)

-- moving what was not taken to the start
moved : (b : List ℕ) (taken filled : ℕ) → taken ≤ min filled (length b)
    → copy_within b taken (min filled (length b)) 0 ≡ put b 0 (left_over b taken filled)
unfolding put
moved b taken filled h =
    let left = min filled (length b) - taken in
    let e : taken + left ≡ min filled (length b) = omega arith in
    let rest = ap (drop taken) (sym (take_min filled b) ∙ ap (λ (n : ℕ). take n b) (sym e)) ∙ drop-take taken left b in
    rw (left_length b taken filled, rest, zero-add left)

pub slice_bounds-feed-end-2 : goal.slice_bounds-feed-end-2
slice_bounds-feed-end-2 c = sym (length-take-le _ _ (search rules))

pub returns-clause-fed : goal.returns-clause-fed
returns-clause-fed c =
    let a = c.args in
    let s = held a.set.now in
    let bytes = a.buffer.now in
    let room = length a.out.now in
    let call = c.feed-fed in
    let end = c.min-end in
    let whole : take end.result bytes ≡ take a.filled bytes = ap (λ (n : ℕ). take n bytes) end.ensures ∙ take_min a.filled bytes in
    let f = feeds_as (λ t. fed ieee ORIGINS a.stage t (take a.filled bytes) room) (ap (λ (l : List ℕ). fed ieee ORIGINS a.stage s l room) whole)
    call.ensures.fed in
    let taken = call.result.taken in
    let within : taken ≤ min a.filled (length bytes) = omega (arith, call.ensures.within.0, end.ensures, length-take end.result bytes) in
    let copied = c.copy_within.ensures.after ∙ ap (λ (n : ℕ). copy_within bytes taken n 0) end.ensures ∙ moved bytes taken a.filled within in
    let long = left_length bytes taken a.filled in
    let kept : Writes (change bytes c.copy_within.new.self) 0 (left_over bytes taken a.filled) (end.result - taken) =
    record { end_is = omega (arith, long, end.ensures); now_is = copied } in
    record {
      stage_is = f.stage_is;
      kept = writes_as kept _ (ap (λ (n : ℕ). drop n (take a.filled bytes)) f.taken_is);
      lines = f.lines;
      left = f.left;
      kept_within = omega (arith, end.ensures);
      written_within = call.ensures.within.1;
    }
