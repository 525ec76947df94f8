-- `results::result` meets its contract, where place refused. Assumes nothing.
use mathlib.Core.Path.{sym, ap, ◌∙◌}
use Prim.Native.Nat.{ℕ}
use lib.Ieee.{of_bits}
use Rattle.answer.specs.Answer.{given}
use Rattle.answer.specs.Given.{Given}
use Rattle.arithmetic.specs.Numbers.{0·0}
use Rattle.dodecahedron.specs.declared.place.Place.{Place}
use Rattle.place_list.specs.declared.PlaceResult.{PlaceResult}
use Rattle.place_list.specs.Lists.{result_of}
use Rattle.list_calls.proofs.results.result.Goals as goal

pub returns-in-Err : goal.returns-in-Err
unfolding of_bits
returns-in-Err c =
    let refused : ℕ → PlaceResult = λ n. record { refusal = n; origin = 0; x = 0·0; y = 0·0 } in
    ap refused c.number.ensures ∙ ap (λ (g : Given Place). result_of g) (ap given (sym c.in-Err.is))
