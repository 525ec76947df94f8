-- The arguments of the C functions as values, and values as the numbers that a C function leaves for them. Definitions only.
use Rattle.std.specs.Prelude.{ℕ, Bool, cond, List, [], ◌∷◌, Float}
use Rattle.coordinates.specs.declared.coords.Face.{Face}
use Rattle.coordinates.specs.declared.lonlat.LonLat.{LonLat}
use Rattle.coordinates.specs.declared.spherical.Spherical.{Spherical}
use Rattle.dodecahedron.specs.declared.place.Place.{Place}

-- ---- arguments
abbrev pub lon_lat : Float → Float → LonLat
lon_lat longitude latitude = record { longitude = record { 0 = longitude }; latitude = record { 0 = latitude } }

abbrev pub spherical : Float → Float → Spherical
spherical theta phi = record { theta = record { 0 = theta }; phi = record { 0 = phi } }

-- ---- answers
abbrev pub id : ℕ → ℕ
id o = o

-- 1 for what is so, and 0 for what isn't
abbrev pub mark : Bool → ℕ
mark b = cond b 1 0

-- an offset and a length
abbrev pub part : List ℕ → List ℕ
part p = p

-- "theta, phi", "longitude, latitude", "x, y"
abbrev pub angles : Spherical → List Float
angles s = s.theta.0 ∷ s.phi.0 ∷ []

abbrev pub degrees : LonLat → List Float
degrees p = p.longitude.0 ∷ p.latitude.0 ∷ []

abbrev pub point : Face → List Float
point f = f.0.x ∷ f.0.y ∷ []

-- place answers an id and a face point
abbrev pub id_and_point : Place → ℕ × List Float
id_and_point p = (p.origin, point p.face)
