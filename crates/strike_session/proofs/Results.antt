-- What holds of what a function leaves (specs/Results): the same by an equal definition, and what nothing written is. Assumes nothing.
use mathlib.Core.Path.{◌≡◌, refl, sym, ap, ◌∙◌}
use mathlib.Core.Bool.{Bool, true, false}
use mathlib.Core.List.{List, []}
use Prim.Native.Nat.{ℕ, ◌<◌, ◌≤◌, zero-le}
use borrow.Author.Tests.{lt-ltb, le-ltb}
use lib.Dec.{ltb}
use denote.Triple.Both.{Both}
use Rattle.set.specs.Set.{Set}
use Rattle.strike_records.specs.Line.{LINE}
use Rattle.strike_records.specs.Writes.{Bytes, change}
use Rattle.strike_records.proofs.Written.{writes_none, writes_as}
use Rattle.strike_session.specs.Pieces.{Fed, still, fitting}
use Rattle.strike_session.specs.Results.{Feeds, WritesIfRoom}
use Rattle.strike_session.specs.declared.session.Fed as declared
use Rattle.strike_session.specs.declared.session.Stage.{Stage}

-- ---- a definition by another name
pub feeds_as : {set : Both Set Set} {out : Bytes} {given : declared.Fed} {f : Set → Fed} (g : Set → Fed) → f set.entry ≡ g set.entry
    → Feeds set out given f → Feeds set out given g
feeds_as g e w =
    record {
      stage_is = w.stage_is ∙ ap (λ (r : Fed). r.stage) e;
      taken_is = w.taken_is ∙ ap (λ (r : Fed). r.taken) e;
      lines = writes_as w.lines _ (ap (λ (r : Fed). r.lines) e);
      left = w.left ∙ ap (λ (r : Fed). r.set) e;
    }

-- nothing is taken
pub feeds_none : (s : Set) (xs : List ℕ) (stage : Stage) → Feeds (change s s) (change xs xs) (record { stage = stage; taken = 0; written = 0 }) (still stage)
feeds_none s xs stage = record { stage_is = refl; taken_is = refl; lines = writes_none xs; left = refl }

-- ---- a line where there is room for one
pub no_room : (room : ℕ) (line : List ℕ) → room < LINE → fitting room line ≡ []
unfolding fitting
no_room room line h = rw (lt-ltb room LINE h, fitting)

pub with_room : (room : ℕ) (line : List ℕ) → LINE ≤ room → fitting room line ≡ line
unfolding fitting
with_room room line h = rw (le-ltb room LINE h, fitting)

pub nothing_fits : (room : ℕ) → fitting room [] ≡ []
unfolding fitting
nothing_fits room = by (ltb room LINE)
  where
    by : (b : Bool) → ◌≡◌ {A = List ℕ} (elim b [ true ↦ [] | false ↦ [] ]) []
    by true = refl
    by false = refl

pub room_as : {out : Bytes} {line : List ℕ} {end : ℕ} (l : List ℕ) → line ≡ l → WritesIfRoom out line end → WritesIfRoom out l end
room_as l e w = rw e at w

pub room_none : (xs : List ℕ) → WritesIfRoom (change xs xs) [] 0
room_none xs = record { line_is = writes_as (writes_none xs) _ (sym (nothing_fits _)); within = zero-le }
