-- What is written from an array of 256 to a slice that is lent. Definitions only.
use Rattle.std.specs.Prelude.{ℕ, min, List, ◌++◌, length, take, drop}
use Rattle.coordinates.specs.declared.coords.Face.{Face}

-- the first `count` points of the array stand over those that are lent, as many as the array has and as there are places; the rest stays
unfoldable pub written_out : List Face → List Face → ℕ → List Face
written_out points from count =
    let n = min (min count 256) (length points) in
    take n from ++ drop n points
