-- What a step of the caption panel uses, by document 01, "Triangles and calls": "each place or unplace that it carries counts for itself, and
-- a refused one uses none". Definitions only.
use Rattle.std.specs.Prelude.{ℕ, Option, Some, None, List, [], Float}
use Rattle.answer.specs.Given.{Given, answered, refused, and_then}
use Rattle.arithmetic.specs.Arith.{Arith}
use Rattle.set.specs.Set.{Set}
use Rattle.stores.specs.declared.used.Used.{Used}
use Rattle.dodecahedron.specs.Work.{used_of}
use Rattle.dodecahedron.specs.Calls.{place_given, unplace_given}
use Rattle.place_list.specs.Uses.{counted}
use Rattle.panel.specs.Step.{command_in, check_step}
use Rattle.strike_records.specs.declared.record.Request.{Request}
use Rattle.strike_records.specs.declared.record.Request.TheVariants as request

module _ (A : Arith) (table : List Float) where
  -- the place or unplace that a command carries
  abbrev pub used_by_command : Set → Given (Option Request) → List Used
  used_by_command s (answered None) = []
  used_by_command s (answered (Some (request.Place p))) = counted (used_of (place_given A table s p)) []
  used_by_command s (answered (Some (request.Unplace f o))) = counted (used_of (unplace_given A table s f o)) []
  used_by_command s (refused n) = []

  -- what the step uses, with the block as it stands; "a refused call uses none, with all that it carries"
  abbrev pub used_by_step : Set → List ℕ → Given (List Used)
  used_by_step s b = and_then (check_step A table s b) (answered (used_by_command s (command_in A b)))
