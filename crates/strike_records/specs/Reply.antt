-- Document 01, "The strike program": a record answered on a set, and records one after the other. Definitions only.
use Rattle.std.specs.Prelude.{ℕ, zero, suc, ◌*◌, List, [], ◌++◌, take, drop, Float}
use Rattle.answer.specs.Given.{Given, answered, refused}
use Rattle.arithmetic.specs.Arith.{Arith}
use Rattle.set.specs.Set.{Set}
use Rattle.set.specs.Outcome.{Outcome}
use Rattle.dodecahedron.specs.Calls.{place_on, unplace_on}
use Rattle.strike_records.specs.Line.{place_line, lon_lat_line, refusal_line}
use Rattle.strike_records.specs.Record.{request_in}
use Rattle.strike_records.specs.declared.record.Request.{Request}
use Rattle.strike_records.specs.declared.record.Request.TheVariants.{Place, Unplace}

-- the line of an answer, or of the number that it was refused with
abbrev pub line_of : {X : Type 0} → (X → List ℕ) → Given X → List ℕ
line_of f (answered x) = f x
line_of f (refused n) = refusal_line n

-- what records come to: their lines, and the set after them
pub record Reply : Type 0 where
  pub lines : List ℕ
  pub set : Set

-- a call's answer as its line, and the set that it leaves
abbrev pub reply_of : {X : Type 0} → (X → List ℕ) → Outcome X → Reply
reply_of f o = record { lines = line_of f o.answer; set = o.set }

-- record i of what follows the header
abbrev pub record_at : List ℕ → ℕ → List ℕ
record_at bytes i = take 10 (drop (i * 10) bytes)

module _ (A : Arith) (table : List Float) where
  -- a record on a set, by what it asks for
  abbrev pub reply_to : Set → Given Request → Reply
  reply_to s (refused n) = record { lines = refusal_line n; set = s }
  reply_to s (answered (Place p)) = reply_of place_line (place_on A table s p)
  reply_to s (answered (Unplace f o)) = reply_of lon_lat_line (unplace_on A table s f o)

  -- a record of ten bytes
  unfoldable pub reply : Set → List ℕ → Reply
  reply s r = reply_to s (request_in A r)

  -- the first k records: their lines, and the set after them
  unfoldable pub replies : Set → List ℕ → ℕ → Reply
  replies s bytes zero = record { lines = []; set = s }
  replies s bytes (suc k) =
      let sofar = replies s bytes k in
      let next = reply sofar.set (record_at bytes k) in
      record { lines = sofar.lines ++ next.lines; set = next.set }
