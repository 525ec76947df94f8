-- What holds of every step, by what the block asks for and by what the call gave. Assumes nothing.
use mathlib.Core.Path.{◌≡◌, refl, sym, ap, ap₂, subst, ◌∙◌}
use mathlib.Core.Logic.{inl, inr}
use mathlib.Core.Bool.{Bool, true, false, true≢false}
use mathlib.Core.List.{List}
use Prim.Native.Nat.{ℕ, ◌≤◌, ◌<◌}
use native.Mathlib.Omega.{arith}
use lib.Dec.{eqb}
use lib.Ieee.{Float}
use lib.ListN.{length, get_or, set, length-set}
use lib.Seq.{get_or-set_same, get_or-set_other}
use borrow.Author.Tests.{eq-eqb, ne_eqb}
use Rattle.std.specs.Prelude.{Option, Some, None}
use Rattle.answer.specs.Given.{Given, answered, refused, passed}
use Rattle.answer.proofs.Given.{refused_answers_nothing}
use Rattle.arithmetic.specs.Arith.{Arith}
use Rattle.coordinates.specs.declared.coords.Face.{Face}
use Rattle.coordinates.specs.declared.lonlat.LonLat.{LonLat}
use Rattle.set.specs.Set.{Set}
use Rattle.dodecahedron.specs.Calls.{place_on, unplace_on}
use Rattle.dodecahedron.specs.declared.place.Place.{Place}
use Rattle.strike_records.specs.Record.{lon_lat_in, face_in}
use Rattle.strike_records.specs.declared.record.Request.{Request}
use Rattle.strike_records.specs.declared.record.Request.TheVariants as request
use Rattle.panel.specs.Registers.{BLOCK, COMMAND, STATUS, MASK, INTERRUPT, ORIGIN, REFUSAL, INPUTS, FIRST, DONE, REFUSED}
use Rattle.panel.specs.Registers.{interrupt, interrupt_anew, ended, done, placed, unplaced, refused_with}
use Rattle.panel.specs.Step.{command_in, block_by, carried_out, check_step, unless_refused, panel, step_on}
use Rattle.panel.specs.EveryStep.{Same, AfterCommand, AfterNothing, EveryStep, OfEveryStep}
use Rattle.panel.proofs.Passed.{step_passed}
use Rattle.panel.proofs.Blocks.{written, written_length, written_before, written_refusal}
use Rattle.panel.proofs.Blocks.{ended_length, ended_other, ended_command, ended_status, ended_line}

-- what no step alters
pub record Kept (b c : List ℕ) : Type 0 where
  pub mask : Same b c MASK
  pub inputs : (i : ℕ) → 6 ≤ i → i < FIRST → Same b c i
  pub long : length c ≡ length b

-- the end of a command, on a block that differs from b in registers that a command may write
pub record Ends (b c : List ℕ) : Type 0 where
  pub kept : Kept b c
  pub after : AfterCommand b c

-- ---- how a command ends
module _ (b : List ℕ) (long : length b ≡ BLOCK) where
  pub refusal_ends : (n : ℕ) → Ends b (refused_with n b)
  unfolding refused_with
  refusal_ends n =
      let d = set b REFUSAL n in
      let sized : length d ≡ BLOCK = length-set b REFUSAL n ∙ long in
      let same : (i : ℕ) → (i ≡ COMMAND → ⊥) → (i ≡ STATUS → ⊥) → (i ≡ INTERRUPT → ⊥) → (i ≡ REFUSAL → ⊥) → Same b (ended REFUSED d) i =
      λ i c s l r. ended_other REFUSED d sized i c s l ∙ get_or-set_other b REFUSAL i n 0 r in
      let status = ended_status REFUSED d sized in
      let mask = ended_other REFUSED d sized MASK (λ e. omega arith) (λ e. omega arith) (λ e. omega arith) in
      record {
        kept = record {
          mask = same MASK (λ e. omega arith) (λ e. omega arith) (λ e. omega arith) (λ e. omega arith);
          inputs = λ i h k. same i (λ e. omega arith) (λ e. omega arith) (λ e. omega arith) (λ e. omega arith);
          long = ended_length REFUSED d sized ∙ sym long;
        };
        after = record {
          command = ended_command REFUSED d sized;
          status = inr status;
          line = ended_line REFUSED d sized ∙ ap₂ interrupt (sym status) (sym mask);
          cleared = λ e. absurd (omega (arith, e, status));
          kept = λ e. (
            same ORIGIN (λ e. omega arith) (λ e. omega arith) (λ e. omega arith) (λ e. omega arith),
            λ i h. same i (λ e. omega arith) (λ e. omega arith) (λ e. omega arith) (λ e. omega arith),
          );
        };
      }

-- done, from a block d in which the origin byte may have been written
module _ (b d : List ℕ) (long : length b ≡ BLOCK) (sized : length d ≡ BLOCK) (others : (i : ℕ) → (i ≡ ORIGIN → ⊥) → Same b d i) where
  done_ends : (x y : Float) → Ends b (done x y d)
  unfolding done
  done_ends x y =
      let e = written d x y sized in
      let whole = written_length d x y sized in
      let same : (i : ℕ) → i < FIRST → (i ≡ COMMAND → ⊥) → (i ≡ STATUS → ⊥) → (i ≡ INTERRUPT → ⊥) → (i ≡ REFUSAL → ⊥) → (i ≡ ORIGIN → ⊥)
      → Same b (ended DONE e) i =
      λ i h c s l r o. ended_other DONE e whole i c s l ∙ written_before d x y sized i h r ∙ others i o in
      let status = ended_status DONE e whole in
      let mask = ended_other DONE e whole MASK (λ e. omega arith) (λ e. omega arith) (λ e. omega arith) in
      record {
        kept = record {
          mask = same MASK (omega arith) (λ e. omega arith) (λ e. omega arith) (λ e. omega arith) (λ e. omega arith) (λ e. omega arith);
          inputs = λ i h k. same i k (λ e. omega arith) (λ e. omega arith) (λ e. omega arith) (λ e. omega arith) (λ e. omega arith);
          long = ended_length DONE e whole ∙ sym long;
        };
        after = record {
          command = ended_command DONE e whole;
          status = inl status;
          line = ended_line DONE e whole ∙ ap₂ interrupt (sym status) (sym mask);
          cleared = λ z. ended_other DONE e whole REFUSAL (λ e. omega arith) (λ e. omega arith) (λ e. omega arith) ∙ written_refusal d x y sized;
          kept = λ z. absurd (omega (arith, z, status));
        };
      }

module _ (b : List ℕ) (long : length b ≡ BLOCK) where
  placed_ends : (g : Given Place) → Ends b (block_by placed b g)
  unfolding placed
  placed_ends (answered p) =
      let d = set b ORIGIN p.origin in
      done_ends b d long (length-set b ORIGIN p.origin ∙ long) (λ i o. get_or-set_other b ORIGIN i p.origin 0 o) p.face.0.x p.face.0.y
  placed_ends (refused n) = refusal_ends b long n

  unplaced_ends : (g : Given LonLat) → Ends b (block_by unplaced b g)
  unfolding unplaced
  unplaced_ends (answered l) = done_ends b b long long (λ i o. refl) l.longitude.0 l.latitude.0
  unplaced_ends (refused n) = refusal_ends b long n

  nothing_after : AfterNothing b (interrupt_anew b)
  unfolding interrupt_anew
  nothing_after =
      let line = interrupt (get_or b STATUS 0) (get_or b MASK 0) in
      record { line = get_or-set_same b INTERRUPT line 0 (omega arith); others = λ i h. get_or-set_other b INTERRUPT i line 0 h }

  nothing_kept : Kept b (interrupt_anew b)
  unfolding interrupt_anew
  nothing_kept =
      let others = nothing_after.others in
      record {
        mask = others MASK (λ e. omega arith);
        inputs = λ i h k. others i (λ e. omega arith);
        long = length-set b INTERRUPT (interrupt (get_or b STATUS 0) (get_or b MASK 0));
      }

-- ---- by what the block asks for

-- a command that is carried out, or refused with 12
abbrev Asks : Given (Option Request) → Type 0
Asks (answered None) = ⊥
Asks (answered (Some (request.Place p))) = Unit {0}
Asks (answered (Some (request.Unplace f o))) = Unit {0}
Asks (refused n) = n ≡ 12

module _ (A : Arith) (b : List ℕ) where
  asks : (get_or b COMMAND 0 ≡ 0 → ⊥) → Asks (command_in A b)
  unfolding command_in
  asks h = by (eqb (get_or b COMMAND 0) 0) (eqb (get_or b COMMAND 0) 1) (eqb (get_or b COMMAND 0) 2) (ne_eqb (get_or b COMMAND 0) 0 h)
    where
      by : (o p q : Bool) → o ≡ false →
          Asks
          (elim o [
            | true ↦ answered None
            | false ↦ elim p [
              | true ↦ answered (Some (request.Place (lon_lat_in A b INPUTS)))
              | false ↦ elim q [ true ↦ answered (Some (request.Unplace (face_in A b INPUTS) (get_or b ORIGIN 0))) | false ↦ refused 12 ]
            ]
          ])
      by true p q e = absurd (true≢false e)
      by false true q e = tt
      by false false true e = tt
      by false false false e = refl

  asks_nothing : get_or b COMMAND 0 ≡ 0 → command_in A b ≡ answered None
  unfolding command_in
  asks_nothing h = rw (eq-eqb (get_or b COMMAND 0) 0 h, command_in)

module _ (A : Arith) (table : List Float) (s : Set) (b : List ℕ) where
  carried_kept : length b ≡ BLOCK → (k : Given (Option Request)) → Kept b (carried_out A table s b k).block
  carried_kept long (answered None) = nothing_kept b long
  carried_kept long (answered (Some (request.Place p))) = (placed_ends b long (place_on A table s p).answer).kept
  carried_kept long (answered (Some (request.Unplace f o))) = (unplaced_ends b long (unplace_on A table s f o).answer).kept
  carried_kept long (refused n) = (refusal_ends b long n).kept

  carried_after : length b ≡ BLOCK → (k : Given (Option Request)) → Asks k → AfterCommand b (carried_out A table s b k).block
  carried_after long (answered None) a = absurd a
  carried_after long (answered (Some (request.Place p))) a = (placed_ends b long (place_on A table s p).answer).after
  carried_after long (answered (Some (request.Unplace f o))) a = (unplaced_ends b long (unplace_on A table s f o).answer).after
  carried_after long (refused n) a = (refusal_ends b long n).after

  by_check : (g : Given (Unit {0})) → check_step A table s b ≡ g
      → EveryStep A table s b (unless_refused g (carried_out A table s b (command_in A b)) (panel b s)).block
  by_check (refused n) e =
      record {
        mask = refl;
        inputs = λ i h k. refl;
        long = refl;
        command = λ p. refused_answers_nothing n tt (sym e ∙ p);
        nothing = λ p. refused_answers_nothing n tt (sym e ∙ p);
      }
  by_check (answered u) e =
      let long = step_passed A table s b e in
      let kept = carried_kept long (command_in A b) in
      record {
        mask = kept.mask;
        inputs = kept.inputs;
        long = kept.long;
        command = λ p h. carried_after long (command_in A b) (asks A b h);
        nothing = λ p h.
            subst (λ (k : Given (Option Request)). AfterNothing b (carried_out A table s b k).block) (sym (asks_nothing A b h)) (nothing_after b long);
      }

pub of_every_step : OfEveryStep
of_every_step A table s b = by_check A table s b (check_step A table s b) refl

-- ---- the number in byte 5

module _ (b : List ℕ) (long : length b ≡ BLOCK) where
  refusal_byte : (n : ℕ) → get_or (refused_with n b) REFUSAL 0 ≡ n
  unfolding refused_with
  refusal_byte n =
      let d = set b REFUSAL n in
      let sized : length d ≡ BLOCK = length-set b REFUSAL n ∙ long in
      ended_other REFUSED d sized REFUSAL (λ e. omega arith) (λ e. omega arith) (λ e. omega arith)
      ∙ get_or-set_same b REFUSAL n 0 (omega (arith, long))

  done_byte : (x y : Float) → get_or (done x y b) REFUSAL 0 ≡ 0
  unfolding done
  done_byte x y =
      let e = written b x y long in
      let whole = written_length b x y long in
      ended_other DONE e whole REFUSAL (λ e. omega arith) (λ e. omega arith) (λ e. omega arith) ∙ written_refusal b x y long

-- a number above 0 that stands there is the call's
module _ (b : List ℕ) (long : length b ≡ BLOCK) (n : ℕ) (above : 0 < n) where
  placed_number : (g : Given Place) → get_or (block_by placed b g) REFUSAL 0 ≡ n → g ≡ refused n
  unfolding placed
  placed_number (answered p) e =
      let sized = length-set b ORIGIN p.origin ∙ long in
      absurd (omega (arith, e, done_byte (set b ORIGIN p.origin) sized p.face.0.x p.face.0.y))
  placed_number (refused m) e = ap refused (sym (refusal_byte b long m) ∙ e)

  unplaced_number : (g : Given LonLat) → get_or (block_by unplaced b g) REFUSAL 0 ≡ n → g ≡ refused n
  unfolding unplaced
  unplaced_number (answered l) e = absurd (omega (arith, e, done_byte b long l.longitude.0 l.latitude.0))
  unplaced_number (refused m) e = ap refused (sym (refusal_byte b long m) ∙ e)

-- so a command does not end with a number that is not 12 and that neither place nor unplace gives
module _ (A : Arith) (table : List Float) (s : Set) (b : List ℕ) (n : ℕ) (above : 0 < n) (known : n ≡ 12 → ⊥)
    (places : (p : LonLat) → (place_on A table s p).answer ≡ refused n → ⊥)
    (unplaces : (f : Face) (o : ℕ) → (unplace_on A table s f o).answer ≡ refused n → ⊥) where
  carried_number : length b ≡ BLOCK → (k : Given (Option Request)) → Asks k → get_or (carried_out A table s b k).block REFUSAL 0 ≡ n → ⊥
  carried_number long (answered None) a e = absurd a
  carried_number long (answered (Some (request.Place p))) a e = places p (placed_number b long n above (place_on A table s p).answer e)
  carried_number long (answered (Some (request.Unplace f o))) a e = unplaces f o (unplaced_number b long n above (unplace_on A table s f o).answer e)
  carried_number long (refused m) a e = known (sym e ∙ refusal_byte b long m ∙ a)

  pub never_number : check_step A table s b ≡ passed → (get_or b COMMAND 0 ≡ 0 → ⊥) → get_or (step_on A table s b).left.block REFUSAL 0 ≡ n → ⊥
  never_number passes h = by (check_step A table s b) refl
    where
      by : (g : Given (Unit {0})) → check_step A table s b ≡ g
          → get_or (unless_refused g (carried_out A table s b (command_in A b)) (panel b s)).block REFUSAL 0 ≡ n → ⊥
      by (refused m) e = refused_answers_nothing m tt (sym e ∙ passes)
      by (answered u) e = carried_number (step_passed A table s b e) (command_in A b) (asks A b h)
