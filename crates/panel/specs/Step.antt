-- Document 02, Paper 11: "One step carries out the command and sets byte 0 to 0." Over a table of origins, with place's and unplace's own
-- definitions and no others. Definitions only.
use Rattle.std.specs.Prelude.{ℕ, true, false, Option, Some, None, List, eqb, Float, get_or}
use Rattle.answer.specs.Given.{Given, answered, refused, and_then}
use Rattle.arithmetic.specs.Arith.{Arith}
use Rattle.set.specs.Set.{Set}
use Rattle.set.specs.Checks.{check_with}
use Rattle.set.specs.Outcome.{Outcome}
use Rattle.dodecahedron.specs.Calls.{place_on, unplace_on}
use Rattle.strike_records.specs.Record.{lon_lat_in, face_in}
use Rattle.strike_records.specs.declared.record.Request.{Request}
use Rattle.strike_records.specs.declared.record.Request.TheVariants as request
use Rattle.panel.specs.Registers.{COMMAND, ORIGIN, INPUTS, check_block, interrupt_anew, placed, unplaced, refused_with}

-- "0 nothing, 1 place, 2 unplace", the inputs "in the strike program's units and byte order". "Place doesn't look at the origin byte
-- beforehand." "Another command value is refused with 12."
unfoldable pub command_in : Arith → List ℕ → Given (Option Request)
command_in A b =
    elim (eqb (get_or b COMMAND 0) 0) [
      | true ↦ answered None
      | false ↦ elim (eqb (get_or b COMMAND 0) 1) [
        | true ↦ answered (Some (request.Place (lon_lat_in A b INPUTS)))
        | false ↦ elim (eqb (get_or b COMMAND 0) 2) [
          | true ↦ answered (Some (request.Unplace (face_in A b INPUTS) (get_or b ORIGIN 0)))
          | false ↦ refused 12
        ]
      ]
    ]

-- what a step leaves: the block and the set
pub record Panel : Type 0 where
  pub block : List ℕ
  pub set : Set

abbrev pub panel : List ℕ → Set → Panel
panel b s = record { block = b; set = s }

-- the block by a call's answer: how an answer is written, or its refusal's number
abbrev pub block_by : {X : Type 0} → (X → List ℕ → List ℕ) → List ℕ → Given X → List ℕ
block_by write b (answered x) = write x b
block_by write b (refused n) = refused_with n b

abbrev pub panel_by : {X : Type 0} → (X → List ℕ → List ℕ) → List ℕ → Outcome X → Panel
panel_by write b o = panel (block_by write b o.answer) o.set

-- what a step comes to: passed or refused, and what it leaves
pub record Stepped : Type 0 where
  pub answer : Given (Unit {0})
  pub left : Panel

-- "block unchanged", and the set too, where the step itself is refused
abbrev pub unless_refused : Given (Unit {0}) → Panel → Panel → Panel
unless_refused (answered u) new old = new
unless_refused (refused n) new old = old

module _ (A : Arith) (table : List Float) where
  -- the command is carried out, where there is one, or refused
  abbrev pub carried_out : Set → List ℕ → Given (Option Request) → Panel
  carried_out s b (answered None) = panel (interrupt_anew b) s
  carried_out s b (answered (Some (request.Place p))) = panel_by placed b (place_on A table s p)
  carried_out s b (answered (Some (request.Unplace f o))) = panel_by unplaced b (unplace_on A table s f o)
  carried_out s b (refused n) = panel (refused_with n b) s

  -- 23, "tried first"; "A set of wrong length or a bad table refuses the step itself, whatever the command, with 1, 2, 3, 21 or 22"
  unfoldable pub check_step : Set → List ℕ → Given (Unit {0})
  check_step s b =
      and_then (check_block b)
      (check_with A table s)

  abbrev pub step_on : Set → List ℕ → Stepped
  step_on s b =
      let check = check_step s b in
      record { answer = check; left = unless_refused check (carried_out s b (command_in A b)) (panel b s) }
