-- However the input arrived, the program's lines are document 01's for the bytes in a row: what the steps give is what `piecewise` gives for the same
-- pieces, and how an input is cut changes nothing (`program_in_pieces`). Assumes nothing.
use mathlib.Core.Path.{◌≡◌, refl, sym, ap, ◌∙◌}
use mathlib.Core.List.{List, [], ◌∷◌, ◌++◌, append_assoc, append-nil}
use Prim.Native.Nat.{ℕ, ◌+◌, ◌*◌, ◌/◌, ◌≤◌}
use native.Mathlib.Omega.{arith}
use lib.ListN.{length}
use Rattle.arithmetic.specs.Arith.{ieee}
use Rattle.origin.specs.Origins.{ORIGINS}
use Rattle.set.specs.Open.{open_on}
use Rattle.strike_records.specs.Line.{LINE}
use Rattle.strike_session.specs.Session.{program}
use Rattle.strike_session.specs.Pieces.{Piece, joined, Roomy, piecewise, begin_line}
use Rattle.strike_session.proofs.Cutting.{program_in_pieces}
use Rattle.strike_session.specs.Steps.{State, begun, Read, none, more, bytes_of, lines_of, WholeSession}

joined_behind : (ps : List Piece) (p : Piece) → joined (ps ++ (p ∷ [])) ≡ joined ps ++ p.bytes
joined_behind [] p = append-nil p.bytes
joined_behind (q ∷ ps) p = ap (λ l. q.bytes ++ l) (joined_behind ps p) ∙ sym (append_assoc q.bytes (joined ps) p.bytes)

roomy_behind : (ps : List Piece) (p : Piece) → Roomy ps → (length p.bytes / 10 + 1) * LINE ≤ p.room → Roomy (ps ++ (p ∷ []))
roomy_behind [] p h r = (r, tt)
roomy_behind (q ∷ ps) p h r = (h.0, roomy_behind ps p h.1 r)

-- all that is written from a state on
abbrev All : State → List Piece → List ℕ
All t ps = piecewise ieee ORIGINS t.stage t.set t.kept ps

module _ {space room : ℕ} {s : State} where
  abbrev pieces : {t : State} → Read space room s t → List Piece
  pieces none = []
  pieces (more r arrived some fits on) = pieces r ++ (record { bytes = arrived; room = room } ∷ [])

  in_pieces : {t : State} (r : Read space room s t) (ps : List Piece) → All s (pieces r ++ ps) ≡ lines_of r ++ All t ps
  in_pieces none ps = refl
  in_pieces (more {t} r arrived some fits on) ps =
      let p : Piece = record { bytes = arrived; room = room } in
      ap (All s) (append_assoc (pieces r) (p ∷ []) ps) ∙ in_pieces r (p ∷ ps) ∙ sym (append_assoc (lines_of r) _ _)

  all_bytes : {t : State} (r : Read space room s t) → joined (pieces r) ≡ bytes_of r
  all_bytes none = refl
  all_bytes (more r arrived some fits on) =
      joined_behind (pieces r) (record { bytes = arrived; room = room })
      ∙ ap (λ (l : List ℕ). l ++ arrived) (all_bytes r)

  all_roomy : {t : State} (r : Read space room s t) → (space / 10 + 1) * LINE ≤ room → Roomy (pieces r)
  all_roomy none h = tt
  all_roomy (more r arrived some fits on) h =
      roomy_behind (pieces r) (record { bytes = arrived; room = room }) (all_roomy r h) (omega (arith, h, fits))

pub whole_session : WholeSession
whole_session space room s t h r =
    let line = begin_line (open_on ieee ORIGINS s).answer in
    ap (λ (l : List ℕ). line ++ l) (sym (in_pieces r []) ∙ ap (All (begun s)) (append-nil (pieces r)))
    ∙ program_in_pieces ieee ORIGINS s (pieces r) (all_roomy r h)
    ∙ ap (program ieee ORIGINS s) (all_bytes r)
