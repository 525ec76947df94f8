-- What a read brought stands behind the kept bytes, and what feeding leaves in the buffers is where the session stands then. Assumes
-- nothing.
use mathlib.Core.Path.{◌≡◌, sym, ap, ◌∙◌}
use mathlib.Core.List.{List, ◌++◌}
use Prim.Native.Nat.{ℕ, ◌+◌, ◌≤◌}
use native.Mathlib.Nat.{zero-add}
use native.Mathlib.Omega.{arith}
use lib.ListN.{length, take, drop, length-drop}
use lib.Seq.{length-take-le, take-add, take-append_seam}
use Rattle.arithmetic.specs.Arith.{ieee}
use Rattle.origin.specs.Origins.{ORIGINS}
use Rattle.set.specs.Set.{Set}
use Rattle.stores.specs.Slots.{put}
use Rattle.strike_records.specs.Line.{LINE}
use Rattle.strike_records.specs.Writes.{change}
use Rattle.strike_session.specs.Results.{FeedsBuffer, WritesIfRoom}
use Rattle.strike_session.specs.Pieces.{Fed, fed, end_line, fitting, left_over}
use Rattle.strike_session.specs.declared.session.Stage.{Stage}
use Rattle.strike_session.specs.declared.session.FedBuffer.{FedBuffer}
use Rattle.strike_records.proofs.Written.{writes_as}
use Rattle.strike_session.proofs.Results.{with_room}
use Rattle.strike_session.specs.Steps.{State, given, next, Read, Ended}

-- the bytes that a read put behind the kept ones
abbrev pub arrived : ℕ → ℕ → List ℕ → List ℕ
arrived kept n buffer = take n (drop kept buffer)

pub arrived_length : (kept n : ℕ) (buffer : List ℕ) → kept + n ≤ length buffer → length (arrived kept n buffer) ≡ n
arrived_length kept n buffer h = length-take-le n (drop kept buffer) (omega (arith, length-drop kept buffer))

pub put_start : (xs ys : List ℕ) → take (length ys) (put xs 0 ys) ≡ ys
unfolding put
put_start xs ys = take-append_seam ys (drop (length ys) xs)

-- where the session stands after feeding what a read brought, and the lines
module _ {stage : Stage} {s₀ s₁ : Set} (kept n : ℕ) (buffer₀ : List ℕ) {buffer buffer₁ before out : List ℕ} {result : FedBuffer}
    (same : take kept buffer ≡ take kept buffer₀)
    (fed-from : FeedsBuffer stage (change s₀ s₁) (change buffer buffer₁) (kept + n) (change before out) result) where
  abbrev from : State
  from = record { stage = stage; set = s₀; kept = take kept buffer₀ }

  abbrev bytes : List ℕ
  bytes = from.kept ++ arrived kept n buffer

  whole : take (kept + n) buffer ≡ bytes
  whole = take-add kept n buffer ∙ ap (λ (l : List ℕ). l ++ arrived kept n buffer) same

  -- feeding the first bytes of the buffer is feeding those that are kept and those that arrived
  abbrev feeding : List ℕ → Fed
  feeding l = fed ieee ORIGINS stage s₀ l (length before)

  same_fed : feeding (take (kept + n) buffer) ≡ given (length before) from (arrived kept n buffer)
  same_fed = ap feeding whole

  rest_kept : take result.kept buffer₁ ≡ drop (feeding bytes).taken bytes
  rest_kept =
      let rest = left_over buffer (feeding (take (kept + n) buffer)).taken (kept + n) in
      let written = fed-from.kept in
      ap (λ (k : ℕ). take k buffer₁) (written.end_is ∙ zero-add (length rest))
      ∙ ap (take (length rest)) written.now_is
      ∙ put_start buffer rest
      ∙ ap (λ (l : List ℕ). drop (feeding l).taken l) whole

  pub next_is : ◌≡◌ {A = State} (record { stage = result.stage; set = s₁; kept = take result.kept buffer₁ })
      (next (length before) from (arrived kept n buffer))
  next_is =
      let stage_is = fed-from.stage_is ∙ ap (λ (f : Fed). f.stage) same_fed in
      let set_is = fed-from.left ∙ ap (λ (f : Fed). f.set) same_fed in
      λ j. record { stage = stage_is j; set = set_is j; kept = rest_kept j }

  pub lines_are : out ≡ put before 0 (given (length before) from (arrived kept n buffer)).lines
  lines_are = fed-from.lines.now_is ∙ ap (λ (f : Fed). put before 0 f.lines) same_fed

  pub lines_first : take result.written out ≡ (given (length before) from (arrived kept n buffer)).lines
  lines_first =
      let lines = (feeding (take (kept + n) buffer)).lines in
      let written = fed-from.lines in
      ap (λ (k : ℕ). take k out) (written.end_is ∙ zero-add (length lines))
      ∙ ap (take (length lines)) written.now_is
      ∙ put_start before lines
      ∙ ap (λ (f : Fed). f.lines) same_fed

-- ---- the session's end: with room for a line, the last line is the one that the input's end gives
pub ended : (space room written kept : ℕ) (s last : State) (before out : List ℕ) → LINE ≤ length before → length last.kept ≡ kept
    → Read space room s last → WritesIfRoom (change before out) (end_line last.stage kept) written → Ended space room s last written out
ended space room written kept s last before out roomy k r w =
    let line = end_line last.stage (length last.kept) in
    let fits : fitting (length before) (end_line last.stage kept) ≡ line =
    with_room (length before) (end_line last.stage kept) roomy ∙ ap (end_line last.stage) (sym k) in
    let wrote = writes_as w.line_is line fits in
    let is : written ≡ length line = wrote.end_is ∙ zero-add (length line) in
    record {
      read = r;
      written_is = is;
      line_is = ap (λ (n : ℕ). take n out) is ∙ ap (take (length line)) wrote.now_is ∙ put_start before line;
    }
