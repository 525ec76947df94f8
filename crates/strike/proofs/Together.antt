-- A session's begin, its reads and its end as one: what each writes, and the session from where open left it as one from the set as it was. Assumes nothing.
use mathlib.Core.Path.{◌≡◌, ap, ◌∙◌, subst}
use mathlib.Core.Bool.{Bool, false, ◌||◌}
use mathlib.Core.List.{List, []}
use Prim.Native.Nat.{ℕ, ◌≤◌}
use native.Mathlib.Nat.{zero-add}
use native.Mathlib.Omega.{arith}
use lib.ListN.{length, take}
use Rattle.std.proofs.lemmas.Bool.{or_parts}
use Rattle.std.specs.declared.option.Option.{Option}
use Rattle.std.specs.Io.KnownBytes.{Appends}
use Rattle.std.proofs.KnownBytes.{Appends-trans}
use Rattle.arithmetic.specs.Arith.{ieee}
use Rattle.origin.specs.Origins.{ORIGINS}
use Rattle.set.specs.Set.{Set}
use Rattle.strike_records.specs.Line.{LINE}
use Rattle.strike_records.specs.Writes.{change}
use Rattle.strike_records.proofs.Written.{writes_as}
use Rattle.strike_session.specs.Session.{program}
use Rattle.strike_session.specs.Results.{WritesIfRoom, Opens}
use Rattle.strike_session.specs.declared.session.Begun.{Begun}
use Rattle.strike_session.specs.Pieces.{fitting}
use Rattle.strike_session.proofs.Results.{with_room}
use Rattle.strike_session.specs.Steps.{State, state_of, RoomyBuffers, begun, Ended, Passes, bytes_of, lines_of}
use Rattle.strike_session.proofs.Arrived.{put_start}
use Rattle.strike_session.proofs.Whole.{whole_session}

-- what was written of a line for which there is room
pub first_line : (written : ℕ) (before out line : List ℕ) → LINE ≤ length before → WritesIfRoom (change before out) line written → take written out ≡ line
first_line written before out line roomy w =
    let fits : fitting (length before) line ≡ line = with_room (length before) line roomy in
    let wrote = writes_as w.line_is line fits in
    ap (λ (n : ℕ). take n out) (wrote.end_is ∙ zero-add (length line)) ∙ ap (take (length line)) wrote.now_is ∙ put_start before line

-- a session's end with room for so many lines, from one state to another, and what its reads did
module _ (space written : ℕ) (out : List ℕ) (unread unread' x y : Option (List ℕ)) (lost : Bool) where
  abbrev Ends : ℕ → State → State → Type 0
  Ends room s t = (e : Ended space room s t written out) × Passes unread unread' x y (bytes_of e.read) (lines_of e.read) lost

  -- the same from equal states, with equal room, to a set by another name
  ends_as : {room room' : ℕ} {s s' t : State} {set : Set} → room ≡ room' → s ≡ s' → t.set ≡ set → Ends room s t
      → Ends room' s' (record { stage = t.stage; set = set; kept = t.kept })
  ends_as p q r e = rw (p, q, r) at e

-- A whole session: what open left, all reads from there, and the last line. The set that is left has another name behind it.
pub whole :
    (s₀ s₁ : Set) {set : Set} (buffer : List ℕ) (end : State) {before before₁ out : List ℕ} {opened : Begun} {written : ℕ}
    {unread unread' w x y z : Option (List ℕ)} {unbegun unended lost : Bool}
    → RoomyBuffers buffer before
    → Opens (change s₀ s₁) (change before before₁) opened → length before₁ ≡ length before
    → Ends (length buffer) written out unread unread' x y lost (length before₁) (state_of opened.stage 0 s₁ buffer) end
    → (unbegun ≡ false → Appends w x (take opened.written before₁))
    → (unended ≡ false → lost ≡ false)
    → (unended ≡ false → Appends y z (take written out))
    → end.set ≡ set
    → (e : Ended (length buffer) (length before) (begun s₀) (record { stage = end.stage; set = set; kept = end.kept }) written out)
    × Passes unread unread' w z (bytes_of e.read) (program ieee ORIGINS s₀ (bytes_of e.read)) (unbegun || unended)
whole s₀ s₁ buffer end {opened = opened} {w = w} {x = x} {y = y} {z = z} {unbegun = unbegun} {unended = unended}
    roomy opens same ends begins none line is =
    let from : state_of opened.stage 0 s₁ buffer ≡ begun s₀ = λ j. record { stage = opens.stage_is j; set = opens.left j; kept = [] } in
    let all = ends_as _ _ _ _ _ _ _ _ same from is ends in
    let head = first_line _ _ _ _ (omega (arith, roomy.1)) opens.line in (
      all.0,
      record {
        taken = all.1.taken;
        given = λ (i : (unbegun || unended) ≡ false).
            let both = or_parts unbegun unended i in
            let first = subst (Appends w x) head (begins both.0) in
            let third = subst (Appends y z) all.0.line_is (line both.1) in
            let lines = Appends-trans w x z _ _ first (Appends-trans x y z _ _ (all.1.given (none both.1)) third) in
            subst (Appends w z) (whole_session _ _ s₀ _ roomy.1 all.0.read) lines;
      },
    )
