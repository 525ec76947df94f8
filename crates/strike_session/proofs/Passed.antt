-- A step behind all reads before it: the reads with it, and what both together do to a reader's and a writer's bytes. Assumes nothing.
use mathlib.Core.Path.{◌≡◌, refl, sym, ap, ◌∙◌, subst}
use mathlib.Core.Bool.{Bool, false}
use mathlib.Core.List.{List, [], ◌++◌}
use Prim.Native.Nat.{ℕ}
use lib.ListN.{length}
use Rattle.std.proofs.Common.{append-nil}
use Rattle.std.specs.declared.option.Option.{Option}
use Rattle.std.proofs.KnownBytes.{Consumes-trans, Appends-trans}
use Rattle.strike_session.specs.Steps.{State, given, next, Stepped, rests, feeds, Read, more, bytes_of, lines_of, step_bytes, step_lines, Passes}

module _ (space room : ℕ) (s : State) where
  -- reads that come to a state, of these bytes and with these lines
  abbrev Reads : State → List ℕ → List ℕ → Type 0
  Reads t bytes lines = (r : Read space room s t) × (bytes_of r ≡ bytes) × (lines_of r ≡ lines)

  -- one step more
  pub stepped_on : (t u : State) (before out : List ℕ) → length before ≡ room → (r : Read space room s t) (ended lost : Bool)
      → (p : Stepped space t u before out ended lost) → Reads u (bytes_of r ++ step_bytes p) (lines_of r ++ step_lines p)
  stepped_on t u before out same r ended lost (rests e o) =
      subst (λ (w : State). Reads w (bytes_of r ++ []) (lines_of r ++ [])) (sym e) (r, sym (append-nil (bytes_of r)), sym (append-nil (lines_of r)))
  stepped_on t u before out same r ended lost (feeds p f m v e o l) =
      subst (λ (w : State). Reads w (bytes_of r ++ p) (lines_of r ++ (given (length before) t p).lines)) (sym (e ∙ ap (λ (n : ℕ). next n t p) same))
      (more r p f m v, refl, ap (λ (n : ℕ). lines_of r ++ (given n t p).lines) (sym same))

-- lines are lost only by a step that ends the program
pub none_lost : {space : ℕ} {t u : State} {before out : List ℕ} (ended lost : Bool) → Stepped space t u before out ended lost → ended ≡ false → lost ≡ false
none_lost ended lost (rests e o) z = refl
none_lost ended lost (feeds p f m v e o l) z = z

-- two parts one after the other, where the first lost nothing
pub passes_on : (a b c x y z : Option (List ℕ)) (bytes bytes' lines lines' : List ℕ) (lost lost' : Bool) → lost ≡ false
    → Passes a b x y bytes lines lost → Passes b c y z bytes' lines' lost' → Passes a c x z (bytes ++ bytes') (lines ++ lines') lost'
passes_on a b c x y z bytes bytes' lines lines' lost lost' none p q =
    record {
      taken = Consumes-trans a b c bytes bytes' p.taken q.taken;
      given = λ (e : lost' ≡ false). Appends-trans x y z lines lines' (p.given none) (q.given e);
    }
