-- What a call works out, and what it comes to: its answer and the set that it leaves. Definitions only.
use Rattle.answer.specs.Given.{Given, answered, refused, bind}
use Rattle.arithmetic.specs.Arith.{Arith}
use Rattle.set.specs.Set.{Set}
use Rattle.set.specs.Outcome.{Outcome}
use Rattle.stores.specs.Used.{used_written, written_if_there}
use Rattle.stores.specs.declared.used.Used.{Used}
use Rattle.dodecahedron.specs.declared.work.Work.{Work}

-- ---- a call's answer, and the set afterwards

abbrev pub answer_of : {X : Type 0} → Given (Work X) → Given X
answer_of (refused n) = refused n
answer_of (answered w) = answered w.answer

abbrev pub used_of : {X : Type 0} → Given (Work X) → Given Used
used_of (refused n) = refused n
used_of (answered w) = answered w.used

module _ (A : Arith) (s : Set) where
  -- "A refusal leaves every lent buffer bit for bit unchanged." "Empty used slots are written on success."
  abbrev pub set_used : Given Used → Set
  set_used (refused n) = s
  set_used (answered u) = used_written A s u

  abbrev pub outcome : {X : Type 0} → Given (Work X) → Outcome X
  outcome g = record { answer = answer_of g; set = set_used (used_of g) }

  -- the same of any work on any set: slots that the set has not are not written
  abbrev pub set_used_if_there : Given Used → Set
  set_used_if_there (refused n) = s
  set_used_if_there (answered u) = written_if_there A s u

  abbrev pub outcome_if_there : {X : Type 0} → Given (Work X) → Outcome X
  outcome_if_there g = record { answer = answer_of g; set = set_used_if_there (used_of g) }

-- what a call worked out, and then its final answer f, for which 9 is tried; the slots that it uses go along
unfoldable pub finish : {X Y : Type 0} → Given (Work X) → (X → Given Y) → Given (Work Y)
finish core f =
    bind core λ w.
    bind (f w.answer) λ y.
    answered (record { answer = y; used = w.used })
