-- The first positions and the first points of two arrays lent to `region`: the answer, all points and the set that it leaves. Definitions only.
use Rattle.std.specs.Prelude.{ℕ, List, ◌++◌, Float, take, drop}
use Rattle.arithmetic.specs.Arith.{Arith}
use Rattle.coordinates.specs.declared.coords.Face.{Face}
use Rattle.coordinates.specs.declared.lonlat.LonLat.{LonLat}
use Rattle.set.specs.Set.{Set}
use Rattle.region_work.specs.Region.{RegionCalled, region_called, region_on}

-- what the call came to, with the points behind those that were lent
abbrev pub with_rest : RegionCalled → List Face → RegionCalled
with_rest c rest = region_called c.answer (c.points ++ rest) c.set

-- the first n positions and the first m points are lent
abbrev pub region_first : Arith → List Float → Set → List LonLat → ℕ → List Face → ℕ → RegionCalled
region_first A table s ps n points m = with_rest (region_on A table s (take n ps) (take m points)) (drop m points)
