-- A list of calls and then one more. Assumes nothing.
use mathlib.Core.Path.{◌≡◌, refl, ap, ◌∙◌}
use mathlib.Core.List.{List, [], ◌∷◌, ◌++◌}
use lib.Ieee.{Float}
use Rattle.set.specs.Set.{Set}
use Rattle.histories.specs.Lists.{Standing, Call, step, run}
use Rattle.histories.specs.EveryList.{opened, left}

pub run_then : (s : Standing) (cs : List Call) (c : Call) → run s (cs ++ c ∷ []) ≡ step (run s cs) c
run_then s [] c = refl
run_then s (d ∷ cs) c = run_then (step s d) cs c

-- what a list has left, and one call more
pub left_then : (t : List Float) (b : Set) (cs : List Call) (c : Call) {s : Standing} → left t b cs ≡ s → left t b (cs ++ c ∷ []) ≡ step s c
left_then t b cs c e = run_then (opened t b) cs c ∙ ap (λ (s : Standing). step s c) e
