-- What a reader would ask next: which refusals are left on a set that has been opened and then touched only by our
-- calls. Definitions only.
use Rattle.std.specs.Prelude.{ℕ, ◌≡◌, Bool, true, false, ◌||◌, List, [], ◌∷◌, eqb}
use Rattle.answer.specs.Given.{Given, refused}
use Rattle.arithmetic.specs.Arith.{ieee}
use Rattle.coordinates.specs.declared.coords.Face.{Face}
use Rattle.coordinates.specs.declared.lonlat.LonLat.{LonLat}
use Rattle.coordinates.specs.declared.spherical.Spherical.{Spherical}
use Rattle.origin.specs.Origins.{ORIGINS}
use Rattle.set.specs.Set.{Set}
use Rattle.dodecahedron.specs.Calls.{forward_on, inverse_on, place_on, unplace_on}
use Rattle.histories.specs.Lists.{Standing, Call, effect, step}
use Rattle.opening.specs.Opening.{RefusedWith}

-- n is one of these numbers
unfoldable pub among : ℕ → List ℕ → Bool
among n [] = false
among n (m ∷ ms) = eqb n m || among n ms

-- what is given is an answer, or refused with one of these numbers
abbrev pub Only : {X : Type 0} → List ℕ → Given X → Type 0
Only ns g = (n : ℕ) → g ≡ refused n → among n ns ≡ true

-- an id above 11, a number that is not finite or out of its range, an answer that would not be finite; in inverse and
-- unplace an angle outside too; place takes no id
abbrev pub FORWARD_REFUSALS : List ℕ
FORWARD_REFUSALS = 4 ∷ 5 ∷ 6 ∷ 9 ∷ []

abbrev pub INVERSE_REFUSALS : List ℕ
INVERSE_REFUSALS = 4 ∷ 5 ∷ 6 ∷ 19 ∷ 9 ∷ []

abbrev pub PLACE_REFUSALS : List ℕ
PLACE_REFUSALS = 5 ∷ 6 ∷ 9 ∷ []

-- and a list of positions, that its results are not as many; a region, that it has no positions or too many, and that they lie on two
-- faces; a step, that its block isn't 32 bytes
abbrev pub CALL_REFUSALS : List ℕ
CALL_REFUSALS = 14 ∷ 15 ∷ 16 ∷ 23 ∷ INVERSE_REFUSALS

-- no others: no 1, 2, 3 or 8
pub record RefusalsLeft (s : Set) : Type 0 where
  pub forward : (p : Spherical) (o : ℕ) → Only FORWARD_REFUSALS (forward_on ieee ORIGINS s p o).answer
  pub inverse : (f : Face) (o : ℕ) → Only INVERSE_REFUSALS (inverse_on ieee ORIGINS s f o).answer
  pub place : (l : LonLat) → Only PLACE_REFUSALS (place_on ieee ORIGINS s l).answer
  pub unplace : (f : Face) (o : ℕ) → Only INVERSE_REFUSALS (unplace_on ieee ORIGINS s f o).answer

-- no call of a list, open included, is refused with n
abbrev pub NoneRefused : ℕ → Standing → List Call → Type 0
NoneRefused n s [] = Unit {0}
NoneRefused n s (c ∷ cs) = (RefusedWith n (effect s c) → ⊥) × NoneRefused n (step s c) cs
