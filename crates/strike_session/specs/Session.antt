-- Document 01, "The strike program": from all bytes of the input all bytes of the output. Definitions only.
use Rattle.std.specs.Prelude.{ℕ, zero, suc, true, false, List, [], ◌∷◌, ◌++◌, ltb, length, take, drop, Float}
use Rattle.arithmetic.specs.Arith.{Arith}
use Rattle.set.specs.Set.{Set}
use Rattle.set.specs.Open.{open_on}
use Rattle.strike_records.specs.Line.{refusal_line}
use Rattle.strike_records.specs.Record.{headed}
use Rattle.strike_records.specs.Reply.{line_of, reply}

-- "at most 4,294,967,295 records"
abbrev pub MAX_RECORDS : ℕ
MAX_RECORDS = 4294967295

-- the input ends: "input ends inside a record" gives 13, and between two records nothing
abbrev pub cut_off : List ℕ → List ℕ
cut_off [] = []
cut_off (b ∷ bs) = refusal_line 13

module _ (A : Arith) (table : List Float) where
  -- "10-byte records", of which n more are taken: a line each, and what the input's end gives. "A cut-off record gives only 13, also
  -- where its kind is wrong."
  unfoldable pub records : ℕ → Set → List ℕ → List ℕ
  records zero s bytes = []
  records (suc n) s bytes =
      elim (ltb (length bytes) 10) [
        | true ↦ cut_off bytes
        | false ↦ (reply A table s (take 10 bytes)).lines ++ records n (reply A table s (take 10 bytes)).set (drop 10 bytes)
      ]

  -- the header and then the records; 11 where it is "missing, wrong or short"
  unfoldable pub session : Set → List ℕ → List ℕ
  session s bytes = elim (headed bytes) [ true ↦ records MAX_RECORDS s (drop 5 bytes) | false ↦ refusal_line 11 ]

  -- "The set is opened before anything is read; should open refuse, R and that number is the only line."
  unfoldable pub program : Set → List ℕ → List ℕ
  program s bytes =
      let opened = open_on A table s in
      line_of (λ u. session opened.set bytes) opened.answer
