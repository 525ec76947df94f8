-- One answered call on a newly opened set, where the call is unplace. Assumes nothing.
use mathlib.Core.Path.{◌≡◌, ap}
use mathlib.Core.Bool.{cond}
use mathlib.Core.List.{List, [], ◌∷◌}
use Prim.Native.Nat.{ℕ}
use lib.Ieee.{Float}
use Rattle.answer.specs.Given.{Given, answered, passed}
use Rattle.arithmetic.specs.Arith.{ieee}
use Rattle.coordinates.specs.declared.coords.Face.{Face}
use Rattle.coordinates.specs.declared.lonlat.LonLat.{LonLat}
use Rattle.set.specs.Open.{open_given}
use Rattle.set.specs.Set.{Set}
use Rattle.dodecahedron.specs.Work.{used_of}
use Rattle.dodecahedron.specs.declared.work.Work.{Work}
use Rattle.dodecahedron.specs.Calls.{unplace_given}
use Rattle.histories.specs.Lists.{unplaces, uses, alone}
use Rattle.histories.specs.EveryList.{opened, left}
use Rattle.histories.specs.Consequences.{filled_slots}
use Rattle.histories.proofs.Consequences.{one_call}

pub one_unplace : (t : List Float) (b : Set) → open_given ieee t b ≡ passed → (f : Face) (o : ℕ) (w : Work LonLat)
    → unplace_given ieee (opened t b).table (opened t b).set f o ≡ answered w
    → filled_slots (left t b (unplaces f o ∷ [])).set ≡ cond w.used.reflected 3 2
one_unplace t b ready f o w e = one_call t b ready (unplaces f o) w.used (ap (λ (g : Given (Work LonLat)). uses (alone (used_of g))) e)
