-- Feeding, case by case: what the header and the input's end give, and that no more is taken or written than there is room for. Assumes nothing.
use mathlib.Core.Path.{◌≡◌, refl, sym, subst}
use mathlib.Core.Bool.{Bool, true, false}
use mathlib.Core.List.{List, []}
use Prim.Native.Nat.{ℕ, zero, suc, ◌+◌, ◌-◌, ◌/◌, ◌≤◌, ◌<◌, min, zero-le}
use native.Mathlib.Nat.{le_trans, min-le_left, min-le_right}
use native.Mathlib.Omega.{arith}
use borrow.Author.Tests.{lt-ltb, le-ltb, ltb-true, ltb-false}
use lib.Dec.{ltb}
use lib.Ieee.{Float}
use lib.ListN.{length, drop, length-drop}
use Rattle.arithmetic.specs.Arith.{Arith}
use Rattle.set.specs.Set.{Set}
use Rattle.strike_records.specs.Line.{LINE}
use Rattle.strike_records.specs.Record.{headed}
use Rattle.strike_records.proofs.Fits.{refusal_fits, lines_fit}
use Rattle.strike_session.specs.Session.{MAX_RECORDS}
use Rattle.strike_session.specs.Pieces.{answerable, Fed, still, wrong_header, records_fed, fed, end_line}
use Rattle.strike_session.specs.declared.session.Stage.{Stage}
use Rattle.strike_session.specs.declared.session.Stage.TheVariants.{Header, Records, Stopped}

-- ---- the input's end
module _ {n : ℕ} (stage : Stage) (k : ℕ) (at : stage ≡ Records n) where
  pub last_record : n ≡ 0 → end_line stage k ≡ []
  last_record e = rw (at, e)

  pub between_records : k ≡ 0 → end_line stage k ≡ []
  between_records e = rw (at, e) (none n)
    where
      none : (n : ℕ) → end_line (Records n) 0 ≡ []
      none zero = refl
      none (suc n) = refl

-- ---- feeding at the header, case by case
module _ (A : Arith) (table : List Float) (s : Set) (bytes : List ℕ) (room : ℕ) where
  -- the records behind a header
  abbrev behind : Fed
  behind = records_fed A table 5 MAX_RECORDS s (drop 5 bytes) (answerable MAX_RECORDS (drop 5 bytes) room)

  abbrev by_header : Bool → Bool → Bool → Fed
  by_header short good narrow =
      elim short [
        | true ↦ still Header s
        | false ↦ elim good [ true ↦ behind | false ↦ elim narrow [ true ↦ still Header s | false ↦ wrong_header s ] ]
      ]

  fed_header : {a b c : Bool} → ltb (length bytes) 5 ≡ a → headed bytes ≡ b → ltb room LINE ≡ c → fed A table Header s bytes room ≡ by_header a b c
  unfolding fed
  fed_header p q r = λ j. by_header (p j) (q j) (r j)

  pub fed_short : length bytes < 5 → fed A table Header s bytes room ≡ still Header s
  fed_short h = fed_header (lt-ltb _ _ h) refl refl

  pub fed_headed : 5 ≤ length bytes → headed bytes ≡ true → fed A table Header s bytes room ≡ behind
  fed_headed h g = fed_header (le-ltb _ _ h) g refl

  pub fed_narrow : 5 ≤ length bytes → headed bytes ≡ false → room < LINE → fed A table Header s bytes room ≡ still Header s
  fed_narrow h g n = fed_header (le-ltb _ _ h) g (lt-ltb _ _ n)

  pub fed_wrong : 5 ≤ length bytes → headed bytes ≡ false → LINE ≤ room → fed A table Header s bytes room ≡ wrong_header s
  fed_wrong h g n = fed_header (le-ltb _ _ h) g (le-ltb _ _ n)

  -- what holds in each case
  pub header_cases :
      (P : Fed → Type 0) →
      (length bytes < 5 → P (still Header s)) →
      (5 ≤ length bytes → headed bytes ≡ true → P behind) →
      (5 ≤ length bytes → headed bytes ≡ false → room < LINE → P (still Header s)) →
      (5 ≤ length bytes → headed bytes ≡ false → LINE ≤ room → P (wrong_header s)) →
      P (fed A table Header s bytes room)
  header_cases P short good narrow wrong = by (ltb (length bytes) 5) refl (headed bytes) refl (ltb room LINE) refl
    where
      by : (a : Bool) → ltb (length bytes) 5 ≡ a → (b : Bool) → headed bytes ≡ b → (c : Bool) → ltb room LINE ≡ c → P (fed A table Header s bytes room)
      by true p b q c r = subst P (sym (fed_short (ltb-true _ _ p))) (short (ltb-true _ _ p))
      by false p true q c r = subst P (sym (fed_headed (ltb-false _ _ p) q)) (good (ltb-false _ _ p) q)
      by false p false q true r = subst P (sym (fed_narrow (ltb-false _ _ p) q (ltb-true _ _ r))) (narrow (ltb-false _ _ p) q (ltb-true _ _ r))
      by false p false q false r = subst P (sym (fed_wrong (ltb-false _ _ p) q (ltb-false _ _ r))) (wrong (ltb-false _ _ p) q (ltb-false _ _ r))

-- ---- feeding takes no more than there is, and writes no more than there is room for
module _ (A : Arith) (table : List Float) (s : Set) where
  record Bounds (f : Fed) (most room : ℕ) : Type 0 where
    pub taken_fits : f.taken ≤ most
    pub lines_fit : length f.lines ≤ room

  nothing_bounds : (stage : Stage) (most room : ℕ) → Bounds (still stage s) most room
  nothing_bounds stage most room = record { taken_fits = zero-le; lines_fit = zero-le }

  records_bounds : (header n most room : ℕ) (bytes : List ℕ) → header + length bytes ≤ most
      → Bounds (records_fed A table header n s bytes (answerable n bytes room)) most room
  unfolding records_fed
  records_bounds header n most room bytes h =
      let k = answerable n bytes room in
      let least = min-le_right n (min (length bytes / 10) (room / LINE)) in
      let there = le_trans least (min-le_left (length bytes / 10) (room / LINE)) in
      let fit = le_trans least (min-le_right (length bytes / 10) (room / LINE)) in
      record { taken_fits = omega (arith, there); lines_fit = le_trans (lines_fit A table s bytes k) (omega (arith, fit)) }

  fed_bounds : (stage : Stage) (bytes : List ℕ) (room : ℕ) → Bounds (fed A table stage s bytes room) (length bytes) room
  unfolding fed
  fed_bounds Stopped bytes room = nothing_bounds Stopped (length bytes) room
  fed_bounds (Records n) bytes room = records_bounds 0 n (length bytes) room bytes (omega arith)
  fed_bounds Header bytes room =
      header_cases A table s bytes room (λ f. Bounds f (length bytes) room)
      (λ h. nothing_bounds Header (length bytes) room)
      (λ h g. records_bounds 5 MAX_RECORDS (length bytes) room (drop 5 bytes) (omega (arith, length-drop 5 bytes)))
      (λ h g n. nothing_bounds Header (length bytes) room)
      (λ h g n. record { taken_fits = h; lines_fit = le_trans (refusal_fits 11) n })

  pub bounded : (stage : Stage) (bytes : List ℕ) (room taken written : ℕ) → taken ≡ (fed A table stage s bytes room).taken
      → written ≡ 0 + length (fed A table stage s bytes room).lines → (taken ≤ length bytes) × (written ≤ room)
  bounded stage bytes room taken written p q =
      let b = fed_bounds stage bytes room in
      (rw p b.taken_fits, omega (arith, q, b.lines_fit))
