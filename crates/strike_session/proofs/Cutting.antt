-- Cutting the input differently changes nothing: fed in pieces of any sizes, a session writes what document 01's definition gives for
-- all bytes together. The idea: what is written and what is still to be written are together always the same. Assumes nothing.
use mathlib.Core.Path.{◌≡◌, refl, sym, ap, ◌∙◌}
use mathlib.Core.Bool.{true, false}
use mathlib.Core.List.{List, [], ◌∷◌, ◌++◌, append-nil, append_assoc}
use Prim.Native.Nat.{ℕ, zero, suc, ◌+◌, ◌*◌, ◌-◌, ◌/◌, ◌≤◌, ◌<◌, min}
use native.Mathlib.Nat.{zero-add, le_trans, min-le_left, min-le_right, min-eq_left, min-eq_right}
use native.Mathlib.Omega.{arith}
use borrow.Author.Tests.{lt-ltb, le-ltb}
use lib.Ieee.{Float}
use lib.ListN.{length, take, drop, length-append, length-drop, get_or-append}
use lib.Seq.{take-append-le, drop-append-le, drop-drop}
use Rattle.answer.specs.Given.{Given, answered, refused}
use Rattle.arithmetic.specs.Arith.{Arith}
use Rattle.set.specs.Set.{Set}
use Rattle.set.specs.Open.{open_on}
use Rattle.strike_records.specs.Line.{LINE, refusal_line}
use Rattle.strike_records.specs.Record.{headed}
use Rattle.strike_records.specs.Reply.{line_of, reply}
use Rattle.strike_session.specs.Session.{MAX_RECORDS, records, session, program}
use Rattle.strike_records.specs.Reply.{record_at, replies}
use Rattle.strike_session.specs.Pieces.{answerable, Fed, records_fed, fed, end_line, begin_stage, begin_line, Piece, joined, Roomy, piecewise, program_piecewise}
use Rattle.strike_session.specs.declared.session.Stage.{Stage}
use Rattle.strike_session.specs.declared.session.Stage.TheVariants.{Header, Records, Stopped}
use Rattle.strike_session.proofs.Feeding.{header_cases}

-- a header that has arrived stays what it is
headed_more : (bytes more : List ℕ) → 5 ≤ length bytes → headed (bytes ++ more) ≡ headed bytes
unfolding headed
headed_more bytes more h =
    rw (
      le-ltb (length (bytes ++ more)) 5 (simp length-append (omega arith)),
      le-ltb (length bytes) 5 h,
      get_or-append bytes more 0 0 (omega arith),
      get_or-append bytes more 0 1 (omega arith),
      get_or-append bytes more 0 2 (omega arith),
      get_or-append bytes more 0 3 (omega arith),
      get_or-append bytes more 0 4 (omega arith),
    )

short_header : (bytes : List ℕ) → length bytes < 5 → headed bytes ≡ false
unfolding headed
short_header bytes h = rw (lt-ltb (length bytes) 5 h)

module _ (A : Arith) (table : List Float) where
  -- what is still to be written, for the bytes that were not taken
  abbrev remaining : Stage → Set → List ℕ → List ℕ
  remaining Header s bytes = session A table s bytes
  remaining (Records n) s bytes = records A table n s bytes
  remaining Stopped s bytes = []

  -- ---- what is written and what is still to be written are together always the same

  one_record : (n m : ℕ) (s : Set) (bytes : List ℕ) → n ≡ suc m → 10 ≤ length bytes
      → let r = reply A table s (take 10 bytes) in records A table n s bytes ≡ r.lines ++ records A table m r.set (drop 10 bytes)
  unfolding records
  one_record n m s bytes e h = rw (e, le-ltb (length bytes) 10 h, records)

  -- what the first k records write, and what is still to be written then
  abbrev parted : ℕ → Set → List ℕ → List ℕ → ℕ → List ℕ
  parted n s bytes more k =
      let first = replies A table s bytes k in
      first.lines ++ records A table (n - k) first.set (drop (k * 10) bytes ++ more)

  some_records : (n : ℕ) (s : Set) (bytes more : List ℕ) (k : ℕ) → k ≤ n → k * 10 ≤ length bytes
      → records A table n s (bytes ++ more) ≡ parted n s bytes more k
  unfolding replies
  some_records n s bytes more zero h l = ap (λ (m : ℕ). records A table m s (bytes ++ more)) none
    where
      none : n ≡ n - 0
      none = omega arith
  some_records n s bytes more (suc k) h l =
      let first = replies A table s bytes k in
      let here = drop (k * 10) bytes in
      let long : 10 ≤ length here = simp length-drop (omega arith) in
      let start = take-append-le 10 here more long in
      let rest : drop 10 here ≡ drop (suc k * 10) bytes = drop-drop 10 (k * 10) bytes ∙ ap (λ (i : ℕ). drop i bytes) ten in
      let behind = drop-append-le 10 here more long ∙ ap (λ (l : List ℕ). l ++ more) rest in
      let one = one_record (n - k) (n - suc k) first.set (here ++ more) (omega arith) (simp length-append (omega arith)) in
      some_records n s bytes more k (omega arith) (omega arith)
      ∙ ap (λ (l : List ℕ). first.lines ++ l) (one ∙ rw (start, behind) refl)
      ∙ sym (append_assoc first.lines (reply A table first.set (record_at bytes k)).lines _)
    where
      ten : k * 10 + 10 ≡ suc k * 10
      ten = omega arith

  answered_records : (n : ℕ) (s : Set) (bytes more : List ℕ) (room : ℕ)
      → records A table n s (bytes ++ more) ≡ parted n s bytes more (answerable n bytes room)
  answered_records n s bytes more room =
      let least = min (length bytes / 10) (room / LINE) in
      let there = le_trans (min-le_right n least) (min-le_left (length bytes / 10) (room / LINE)) in
      some_records n s bytes more (answerable n bytes room) (min-le_left n least) (omega (arith, there))

  abbrev Law : Stage → Set → List ℕ → List ℕ → Fed → Type 0
  Law stage s bytes more f = remaining stage s (bytes ++ more) ≡ f.lines ++ remaining f.stage f.set (drop f.taken bytes ++ more)

  good_header : (s : Set) (bytes more : List ℕ) → 5 ≤ length bytes → headed bytes ≡ true
      → session A table s (bytes ++ more) ≡ records A table MAX_RECORDS s (drop 5 bytes ++ more)
  unfolding session
  good_header s bytes more h g =
      rw (headed_more bytes more h ∙ g, session) (ap (records A table MAX_RECORDS s) (drop-append-le 5 bytes more h))

  bad_header : (s : Set) (bytes : List ℕ) → headed bytes ≡ false → session A table s bytes ≡ refusal_line 11
  unfolding session
  bad_header s bytes g = rw (g, session)

  fed_law : (stage : Stage) (s : Set) (bytes more : List ℕ) (room : ℕ) → Law stage s bytes more (fed A table stage s bytes room)
  unfolding fed records_fed
  fed_law Stopped s bytes more room = refl
  fed_law (Records n) s bytes more room = rw (zero-add (answerable n bytes room * 10)) (answered_records n s bytes more room)
  fed_law Header s bytes more room =
      header_cases A table s bytes room (Law Header s bytes more)
      (λ h. refl)
      (λ h g.
      good_header s bytes more h g
      ∙ answered_records MAX_RECORDS s (drop 5 bytes) more room
      ∙ rw (drop-drop (answerable MAX_RECORDS (drop 5 bytes) room * 10) 5 bytes) refl)
      (λ h g n. refl)
      (λ h g n. bad_header s (bytes ++ more) (headed_more bytes more h ∙ g) ∙ sym (append-nil (refusal_line 11)))

  -- ---- the input's end

  -- fewer bytes are left than are taken together
  abbrev pub Settled : Stage → ℕ → Type 0
  Settled Header kept = kept < 5
  Settled (Records zero) kept = Unit {0}
  Settled (Records (suc n)) kept = kept < 10
  Settled Stopped kept = Unit {0}

  end_law : (stage : Stage) (s : Set) (kept : List ℕ) → Settled stage (length kept) → end_line stage (length kept) ≡ remaining stage s kept
  unfolding records
  end_law Header s kept h = sym (bad_header s kept (short_header kept h))
  end_law (Records zero) s kept h = refl
  end_law (Records (suc n)) s [] h = refl
  end_law (Records (suc n)) s (b ∷ kept) h = rw (lt-ltb (length (b ∷ kept)) 10 h, records)
  end_law Stopped s kept h = refl

  -- the same of what is left of the bytes that were fed
  abbrev pub After : List ℕ → Fed → Type 0
  After bytes f = Settled f.stage (length (drop f.taken bytes))

  settled_records : (n kept : ℕ) → (0 < n → kept < 10) → Settled (Records n) kept
  settled_records zero kept h = tt
  settled_records (suc n) kept h = h (omega arith)

  -- with room for the lines, only a part of a record is left
  all_answered : (header n : ℕ) (s : Set) (bytes whole : List ℕ) (room : ℕ) → bytes ≡ drop header whole → length bytes / 10 * LINE ≤ room
      → After whole (records_fed A table header n s bytes (answerable n bytes room))
  unfolding records_fed
  all_answered header n s bytes whole room e h =
      let k = answerable n bytes room in
      let fits : length bytes / 10 ≤ room / LINE = omega arith in
      let k_is : k ≡ min n (length bytes / 10) = ap (min n) (min-eq_left fits) in
      settled_records (n - k) (length (drop (header + k * 10) whole)) λ some.
      let all : k ≡ length bytes / 10 = k_is ∙ min-eq_right (omega (arith, k_is)) in
      let left : length (drop (header + k * 10) whole) ≡ length bytes - k * 10 =
      ap length (sym (drop-drop (k * 10) header whole))
      ∙ ap (λ (l : List ℕ). length (drop (k * 10) l)) (sym e)
      ∙ length-drop (k * 10) bytes in
      omega (arith, left, all)

  settled_after : (stage : Stage) (s : Set) (bytes : List ℕ) (room : ℕ) → length bytes / 10 * LINE ≤ room → LINE ≤ room
      → After bytes (fed A table stage s bytes room)
  unfolding fed
  settled_after Stopped s bytes room h l = tt
  settled_after (Records n) s bytes room h l = all_answered 0 n s bytes bytes room refl h
  settled_after Header s bytes room h l =
      header_cases A table s bytes room (After bytes)
      (λ short. short)
      (λ p g. all_answered 5 MAX_RECORDS s (drop 5 bytes) bytes room refl (omega (arith, length-drop 5 bytes)))
      (λ p g narrow. absurd (omega arith))
      (λ p g wide. tt)

  pub settled_next : (stage : Stage) (s : Set) (kept : List ℕ) (p : Piece) → Settled stage (length kept)
      → (length p.bytes / 10 + 1) * LINE ≤ p.room
      → After (kept ++ p.bytes) (fed A table stage s (kept ++ p.bytes) p.room)
  unfolding fed records_fed
  settled_next Header s kept p h r =
      settled_after Header s (kept ++ p.bytes) p.room (simp length-append (omega arith)) (omega arith)
  settled_next (Records zero) s kept p h r =
      let k = answerable 0 (kept ++ p.bytes) p.room in
      settled_records (0 - k) _ λ (some : 0 < 0 - k). absurd (omega arith)
  settled_next (Records (suc n)) s kept p h r =
      settled_after (Records (suc n)) s (kept ++ p.bytes) p.room (simp length-append (omega arith)) (omega arith)
  settled_next Stopped s kept p h r = tt

  -- ---- the whole

  all_pieces : (ps : List Piece) (stage : Stage) (s : Set) (kept : List ℕ) → Settled stage (length kept) → Roomy ps
      → piecewise A table stage s kept ps ≡ remaining stage s (kept ++ joined ps)
  all_pieces [] stage s kept h r = end_law stage s kept h ∙ ap (remaining stage s) (sym (append-nil kept))
  all_pieces (p ∷ ps) stage s kept h r =
      let bytes = kept ++ p.bytes in
      let f = fed A table stage s bytes p.room in
      let rest = all_pieces ps f.stage f.set (drop f.taken bytes) (settled_next stage s kept p h r.0) r.1 in
      ap (λ (l : List ℕ). f.lines ++ l) rest
      ∙ sym (fed_law stage s bytes (joined ps) p.room)
      ∙ ap (remaining stage s) (append_assoc kept p.bytes (joined ps))

  -- a session on a set that open just answered
  pub session_in_pieces : (s : Set) (ps : List Piece) → Roomy ps → piecewise A table Header s [] ps ≡ session A table s (joined ps)
  session_in_pieces s ps r = all_pieces ps Header s [] (omega arith) r

  -- the program, from open on
  pub program_in_pieces : (s : Set) (ps : List Piece) → Roomy ps → program_piecewise A table s ps ≡ program A table s (joined ps)
  unfolding program
  program_in_pieces s ps r = by (open_on A table s).answer
    where
      opened : Set
      opened = (open_on A table s).set

      by : (given : Given (Unit {0}))
          → begin_line given ++ piecewise A table (begin_stage given) opened [] ps ≡ line_of (λ u. session A table opened (joined ps)) given
      by (answered u) = session_in_pieces opened ps r
      by (refused n) = ap (λ (l : List ℕ). refusal_line n ++ l) (all_pieces ps Stopped opened [] tt r) ∙ append-nil (refusal_line n)

  -- however the same bytes are cut
  pub cuts_alike : (s : Set) (ps qs : List Piece) → Roomy ps → Roomy qs → joined ps ≡ joined qs
      → program_piecewise A table s ps ≡ program_piecewise A table s qs
  cuts_alike s ps qs p q e = program_in_pieces s ps p ∙ ap (program A table s) e ∙ sym (program_in_pieces s qs q)
