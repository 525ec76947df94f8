-- The strike program: what its records leave is what a list of place and unplace leaves. Assumes nothing.
use mathlib.Core.Path.{◌≡◌, refl, sym, ap, subst, ◌∙◌}
use mathlib.Core.List.{List, [], ◌∷◌, ◌++◌}
use Prim.Native.Nat.{ℕ, zero, suc}
use lib.ListN.{take, drop}
use Rattle.answer.specs.Given.{Given, answered, refused}
use Rattle.arithmetic.specs.Arith.{ieee}
use Rattle.origin.specs.Origins.{ORIGINS}
use Rattle.set.specs.Set.{Set}
use Rattle.stores.specs.declared.used.Used.{Used}
use Rattle.dodecahedron.specs.Work.{used_of, set_used}
use Rattle.dodecahedron.specs.Calls.{place_given, unplace_given}
use Rattle.histories.specs.Lists.{Standing, standing, Call, places, unplaces, uses, alone, effect, after}
use Rattle.histories.proofs.BuiltIn.{table_left}
use Rattle.histories.proofs.Left.{alone_left}
use Rattle.histories.specs.EveryList.{opened, left}
use Rattle.strike_records.specs.Record.{request_in}
use Rattle.strike_records.specs.declared.record.Request.{Request}
use Rattle.strike_records.specs.declared.record.Request.TheVariants.{Place, Unplace}
use Rattle.strike_records.specs.Reply.{line_of, reply_to, reply}
use Rattle.strike_session.specs.Session.{session, program}
use Rattle.opening.specs.Opening.{Without8}
use Rattle.opening.specs.Strike.{set_after, Never7Or8}
use Rattle.opening.proofs.Lists.{left_then}
use Rattle.opening.proofs.Theorem.{open_answers, never_8}

module _ (b : Set) where
  -- some list leaves the set s
  abbrev LeftBy : Set → Type 0
  LeftBy s = (cs : List Call) × (left ORIGINS b cs ≡ standing ORIGINS s)

  -- one call more, that carries one projection
  next : (s : Set) (c : Call) (g : Given Used) → effect (standing ORIGINS s) c ≡ uses (alone g) → LeftBy s → LeftBy (set_used ieee s g)
  next s c g is h =
      let left_so = ap (after (standing ORIGINS s)) is ∙ ap (standing ORIGINS) (sym (alone_left s g)) in
      (h.0 ++ c ∷ [], left_then ORIGINS b h.0 c h.1 ∙ left_so)

  one : (s : Set) (r : Given Request) → LeftBy s → LeftBy (reply_to ieee ORIGINS s r).set
  one s (refused n) h = h
  one s (answered (Place p)) h = next s (places p) (used_of (place_given ieee ORIGINS s p)) refl h
  one s (answered (Unplace f o)) h = next s (unplaces f o) (used_of (unplace_given ieee ORIGINS s f o)) refl h

  records_left : (n : ℕ) (s : Set) (bytes : List ℕ) → LeftBy s → LeftBy (set_after n s bytes)
  unfolding set_after reply
  records_left zero s bytes h = h
  records_left (suc n) s bytes h =
      let r = take 10 bytes in
      records_left n (reply ieee ORIGINS s r).set (drop 10 bytes) (one s (request_in ieee r) h)

pub never_7_or_8 : Never7Or8
unfolding program
never_7_or_8 b l bytes =
    record {
      begins = ap (line_of (λ u. session ieee ORIGINS (opened ORIGINS b).set bytes)) (open_answers b l);
      records = λ n rest.
          let h = records_left b n (opened ORIGINS b).set rest ([], λ j. standing (table_left b [] tt j) (opened ORIGINS b).set) in
          subst Without8 (ap (λ (t : Standing). t.set) h.1) (never_8 b l h.0 (ap (λ (t : Standing). t.table) h.1));
    }
