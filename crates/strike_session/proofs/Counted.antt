-- The count of reads lasts: a session that is not over takes more bytes than are kept, every read brings one of them, and there are more reads than such bytes.
-- Assumes nothing.
use mathlib.Core.Path.{◌≡◌, refl, sym, subst}
use mathlib.Core.Bool.{Bool, false, true≢false}
use mathlib.Core.List.{List, ◌++◌}
use Prim.Native.Nat.{ℕ, zero, suc, ◌+◌, ◌-◌, ◌*◌, ◌/◌, ◌≤◌, ◌<◌, min}
use native.Mathlib.Nat.{le_trans, min-le_left, min-le_right}
use native.Mathlib.Omega.{arith}
use lib.ListN.{length, drop, length-append, length-drop}
use Rattle.arithmetic.specs.Arith.{ieee}
use Rattle.origin.specs.Origins.{ORIGINS}
use Rattle.strike_records.specs.Line.{LINE}
use Rattle.set.specs.Set.{Set}
use Rattle.strike_session.specs.Session.{MAX_RECORDS}
use Rattle.strike_session.specs.Pieces.{Fed, answerable, records_fed, fed, over}
use Rattle.strike_session.specs.declared.session.Stage.{Stage}
use Rattle.strike_session.specs.declared.session.Stage.TheVariants.{Header, Records, Stopped}
use Rattle.strike_session.proofs.Cutting.{Settled, settled_next}
use Rattle.strike_session.proofs.Feeding.{header_cases}
use Rattle.strike_session.specs.Steps.{State, Begins, next, Stepped, rests, feeds}

-- the bytes that a session can still take, those that are kept among them, and one read more for the step that ends it
abbrev Lasts : ℕ → Stage → ℕ → Type 0
Lasts reads Header kept = 5 + MAX_RECORDS * 10 + 1 ≤ reads + kept
Lasts reads (Records zero) kept = 0 < reads
Lasts reads (Records (suc n)) kept = suc n * 10 + 1 ≤ reads + kept
Lasts reads Stopped kept = 0 < reads

abbrev pub Counted : ℕ → Stage → ℕ → Type 0
Counted reads stage kept = Settled ieee ORIGINS stage kept × Lasts reads stage kept

pub some_left : (reads : ℕ) (stage : Stage) (kept : ℕ) → Counted reads stage kept → 0 < reads
some_left reads Header kept c = omega (arith, c.0, c.1)
some_left reads (Records zero) kept c = c.1
some_left reads (Records (suc n)) kept c = omega (arith, c.0, c.1)
some_left reads Stopped kept c = c.1

module _ (reads : ℕ) (s : Set) (bytes : List ℕ) (room : ℕ) where
  abbrev After : Fed → Type 0
  After f = Lasts (reads - 1) f.stage (length (drop f.taken bytes))

  -- so many records are taken as bytes are there for
  records_last : (header n : ℕ) → header ≤ length bytes → 1 < reads → header + n * 10 + 2 ≤ reads + length bytes
      → let k = answerable n (drop header bytes) room in Lasts (reads - 1) (Records (n - k)) (length (drop (header + k * 10) bytes))
  records_last header n h r l =
      let k = answerable n (drop header bytes) room in
      let whole = length (drop header bytes) / 10 in
      let there = le_trans (min-le_right n (min whole (room / LINE))) (min-le_left whole (room / LINE)) in
      by (n - k) refl (omega (arith, there, length-drop header bytes))
    where
      by : (m : ℕ) → m ≡ n - answerable n (drop header bytes) room → answerable n (drop header bytes) room * 10 + header ≤ length bytes
          → Lasts (reads - 1) (Records m) (length (drop (header + answerable n (drop header bytes) room * 10) bytes))
      by zero e t = omega arith
      by (suc m) e t = omega (arith, length-drop (header + answerable n (drop header bytes) room * 10) bytes)

  fed_lasts : (stage : Stage) (kept : ℕ) → Counted reads stage kept → over stage ≡ false → kept < length bytes → LINE ≤ room
      → After (fed ieee ORIGINS stage s bytes room)
  unfolding fed records_fed
  fed_lasts Stopped kept c o h r = absurd (true≢false o)
  fed_lasts (Records zero) kept c o h r = absurd (true≢false o)
  fed_lasts (Records (suc n)) kept c o h r = records_last 0 (suc n) (omega arith) (omega (arith, c.0, c.1)) (omega (arith, c.1))
  fed_lasts Header kept c o h r =
      header_cases ieee ORIGINS s bytes room After
      (λ p. omega (arith, c.1))
      (λ p g. records_last 5 MAX_RECORDS p (omega (arith, c.0, c.1)) (omega (arith, c.1)))
      (λ p g narrow. absurd (omega arith))
      (λ p g wide. omega (arith, c.0, c.1))

-- one read more
pub counted_next : (reads room : ℕ) (t : State) (arrived : List ℕ) → 0 < length arrived → (length arrived / 10 + 1) * LINE ≤ room → over t.stage ≡ false
    → Counted reads t.stage (length t.kept) → Counted (reads - 1) (next room t arrived).stage (length (next room t arrived).kept)
counted_next reads room t arrived some roomy o c = (
  settled_next ieee ORIGINS t.stage t.set t.kept (record { bytes = arrived; room = room }) c.0 roomy,
  fed_lasts reads t.set (t.kept ++ arrived) room t.stage (length t.kept) c o (omega (arith, length-append t.kept arrived)) (omega arith),
)

-- a session begins with reads for all its bytes and more
pub counted_first : (stage : Stage) → Begins stage → Counted 42949672960 stage 0
counted_first Header b = (omega arith, omega arith)
counted_first (Records n) b = absurd b
counted_first Stopped b = (tt, omega arith)

-- a step more
module _ (reads space : ℕ) (t u : State) (before out : List ℕ) (roomy : (space / 10 + 1) * LINE ≤ length before) where
  pub counted_on : (ended lost : Bool) → Stepped space t u before out ended lost → ended ≡ false → Counted reads t.stage (length t.kept)
      → Counted (reads - 1) u.stage (length u.kept)
  counted_on ended lost (rests e o) z c = absurd (true≢false z)
  counted_on ended lost (feeds p f m v e o l) z c =
      subst (λ (w : State). Counted (reads - 1) w.stage (length w.kept)) (sym e)
      (counted_next reads (length before) t p f (omega arith) v c)
