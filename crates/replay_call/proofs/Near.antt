-- What a list and a region of positions near one leave of the set, from what is lent: its first positions, and as many results or points as
-- the call says. Assumes nothing.
use Rattle.std.proofs.Common.{◌≡◌, ◌≤◌, List, Float, length, take, sym, ap, ap₂, subst, ◌∙◌, ℕ}
use lib.Seq.{length-take-le}
use Rattle.arithmetic.specs.Arith.{ieee}
use Rattle.coordinates.specs.declared.coords.Face.{Face}
use Rattle.coordinates.specs.declared.lonlat.LonLat.{LonLat}
use Rattle.set.specs.Set.{Set}
use Rattle.place_list.specs.declared.PlaceResult.{PlaceResult}
use Rattle.histories.specs.Lists.{lists, regions}
use Rattle.histories.proofs.Left.{list_left, region_left_lem}
use Rattle.replay_lent.specs.Lists.{placed_first}
use Rattle.replay_lent.specs.Regions.{region_first}
use Rattle.replay_call.specs.Made.{nearby}
use Rattle.replay_call.specs.Left.{leaves}
use Rattle.replay_call.specs.declared.nearby.Nearby.{Nearby}

first : {X : Type 0} {long m : ℕ} (xs : List X) → length xs ≡ long → m ≤ long → length (take m xs) ≡ m
first {X} {long} {m} xs length-is within = length-take-le m xs (subst (λ (n : ℕ). m ≤ n) (sym length-is) within)

module _ (table : List Float) (s : Set) (near : Nearby) (ps : List LonLat) {n m : ℕ} (count-is : n ≡ near.count) (room-is : m ≡ near.room) where
  pub listed_left : (rs : List PlaceResult) → ps ≡ nearby ieee 400 near.start near.stride → length rs ≡ 400 → near.room ≤ 400
      → (placed_first ieee table s ps n rs m).left.set
      ≡ leaves table s (lists (take near.count (nearby ieee 400 near.start near.stride)) near.room)
  listed_left rs are length-is within =
      ap₂ (λ (n m : ℕ). (placed_first ieee table s ps n rs m).left.set) count-is room-is
      ∙ list_left table s (take near.count ps) (take near.room rs)
      ∙ ap (λ (k : ℕ). leaves table s (lists (take near.count ps) k)) (first rs length-is within)
      ∙ ap (λ (qs : List LonLat). leaves table s (lists (take near.count qs) near.room)) are

  pub outlined_left : (points : List Face) → ps ≡ nearby ieee 300 near.start near.stride → length points ≡ 300 → near.room ≤ 300
      → (region_first ieee table s ps n points m).set
      ≡ leaves table s (regions (take near.count (nearby ieee 300 near.start near.stride)) near.room)
  outlined_left points are length-is within =
      ap₂ (λ (n m : ℕ). (region_first ieee table s ps n points m).set) count-is room-is
      ∙ region_left_lem table s (take near.count ps) (take near.room points)
      ∙ ap (λ (k : ℕ). leaves table s (regions (take near.count ps) k)) (first points length-is within)
      ∙ ap (λ (qs : List LonLat). leaves table s (regions (take near.count qs) near.room)) are
