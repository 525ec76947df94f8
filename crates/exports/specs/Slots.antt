-- Show and its companion as C functions: what they leave for a slot that is filled or empty. Definitions only.
use Rattle.std.specs.Prelude.{ℕ, ◌+◌, ◌*◌, Bool, cond, List, [], ◌∷◌, eqb}
use Rattle.stores.specs.Show.{width_in, coordinates_in}
use Rattle.stores.specs.declared.show.StoreKind.{StoreKind}
use Rattle.stores.specs.declared.show.StoreKind.TheVariants as kind

-- the store that a number names: the face store by 0, and the sphere store by every other
unfoldable pub store_named : ℕ → StoreKind
store_named k = cond (eqb k 0) kind.Face kind.Sphere

-- the offset and the length of a slot's coordinates in its store: those behind its mark
abbrev pub coordinates_at : StoreKind → ℕ → List ℕ
coordinates_at s k = (k * width_in s + 1) ∷ coordinates_in s ∷ []

-- show leaves them for a filled slot, and no part for an empty one
abbrev pub part : StoreKind → ℕ → Bool → List ℕ
part s k filled = cond filled (coordinates_at s k) (0 ∷ 0 ∷ [])
