-- Document 01, "Calls and their numbers": place's answer is a face point and the origin's id. Definitions only.
use Rattle.std.specs.Prelude.{ℕ}
use Rattle.answer.specs.Given.{Given, answered, bind}
use Rattle.coordinates.specs.Conversions.{finite_face}
use Rattle.coordinates.specs.declared.coords.Face.{Face}
use Rattle.dodecahedron.specs.declared.place.Place.{Place}

-- the origin's id with the face point; 9 unless that is finite
unfoldable pub finite_place : ℕ → Face → Given Place
finite_place o f = bind (finite_face f) λ g. answered (record { origin = o; face = g })
