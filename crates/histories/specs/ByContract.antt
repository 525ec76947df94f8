-- What a call of a list does to the set, by its effect (`Lists`), is what the contract of the call says that it leaves, for every set, every
-- table and every argument. So a theorem over lists is one about the calls themselves. Definitions only.
use Rattle.std.specs.Prelude.{ℕ, ◌≡◌, List, Float, length}
use Rattle.arithmetic.specs.Arith.{ieee}
use Rattle.coordinates.specs.declared.coords.Face.{Face}
use Rattle.coordinates.specs.declared.lonlat.LonLat.{LonLat}
use Rattle.coordinates.specs.declared.spherical.Spherical.{Spherical}
use Rattle.set.specs.Open.{open_on}
use Rattle.dodecahedron.specs.Calls.{forward_on, inverse_on, place_on, unplace_on}
use Rattle.place_list.specs.Lists.{place_list_on}
use Rattle.place_list.specs.declared.PlaceResult.{PlaceResult}
use Rattle.region_work.specs.Region.{region_on}
use Rattle.panel.specs.Step.{step_on}
use Rattle.stores.specs.declared.show.StoreKind.{StoreKind}
use Rattle.histories.specs.Lists.{Standing, opens, forwards, inverses, places, unplaces, lists, regions, steps, shows, asks, step}

-- on the set of s, with the table that calls take there
pub record ByContract (s : Standing) : Type 0 where
  pub opening : (table : List Float) → (step s (opens table)).set ≡ (open_on ieee table s.set).set
  pub forward : (p : Spherical) (o : ℕ) → (step s (forwards p o)).set ≡ (forward_on ieee s.table s.set p o).set
  pub inverse : (f : Face) (o : ℕ) → (step s (inverses f o)).set ≡ (inverse_on ieee s.table s.set f o).set
  pub place : (p : LonLat) → (step s (places p)).set ≡ (place_on ieee s.table s.set p).set
  pub unplace : (f : Face) (o : ℕ) → (step s (unplaces f o)).set ≡ (unplace_on ieee s.table s.set f o).set
  pub place_list : (ps : List LonLat) (rs : List PlaceResult)
      → (step s (lists ps (length rs))).set ≡ (place_list_on ieee s.table s.set ps rs).left.set
  pub region : (ps : List LonLat) (points : List Face)
      → (step s (regions ps (length points))).set ≡ (region_on ieee s.table s.set ps points).set
  pub panel : (b : List ℕ) → (step s (steps b)).set ≡ (step_on ieee s.table s.set b).left.set
  -- show and its companion are lent nothing to write
  pub show : (kind : StoreKind) (k : ℕ) → (step s (shows kind k) ≡ s) × (step s (asks kind k) ≡ s)
