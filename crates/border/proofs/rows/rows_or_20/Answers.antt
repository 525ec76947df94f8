-- `rows_or_20` meets its contract: the table itself where it has 84 numbers, and 20 elsewhere. Assumes nothing.
use mathlib.Core.Path.{◌≡◌, refl, ap, ◌∙◌}
use mathlib.Core.Logic.{◌≢◌}
use mathlib.Core.List.{List}
use borrow.Author.Tests.{eq-eqb, ne_eqb}
use lib.Ieee.{Float}
use lib.ListN.{length}
use Rattle.std.specs.Array.{IsWholeChunk}
use Rattle.std.specs.Prelude.{Result, Ok, Err, MatchResult}
use Rattle.std.specs.Result.{result_or}
use Rattle.answer.specs.Answer.{given}
use Rattle.answer.specs.declared.Refusal.{Refusal}
use Rattle.answer.specs.declared.Refusal.TheVariants as refusal
use Rattle.border.specs.Tables.{rows_given, with_table}
use Rattle.border.proofs.rows.rows_or_20.Goals as goal

or_20 : {E : Type 0} (table : List Float) (r : Result (List Float) E)
    → MatchResult r (λ rows. IsWholeChunk table rows 84) (λ e. length table ≢ 84)
    → given (result_or {D = Refusal} r (Err refusal.TableFile)) ≡ rows_given table
unfolding with_table
or_20 table (Ok rows) h = rw (eq-eqb _ _ h.long, h.same) refl
or_20 table (Err e) h = rw (ne_eqb _ _ h) refl

pub returns : goal.returns
returns c = ap given c.or.ensures ∙ or_20 _ _ c.try_from.ensures.1
