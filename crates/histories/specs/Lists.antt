-- Lists of calls on one set: "each call is lent that set (show its two stores) as the call before left it, and nothing else writes
-- it". Paper 10: "in a list and after it every call that takes a table, open excepted, takes that of the last open that answered, the
-- one the list starts from included. An open may bring another." What a call leaves is said in the definitions that the contracts of
-- open, forward, inverse, place, unplace, place_list, region and step cite, and in no others (`ByContract`). Definitions only.
use Rattle.std.specs.Prelude.{ℕ, List, [], ◌∷◌, Float}
use Rattle.answer.specs.Given.{Given, answered, refused}
use Rattle.arithmetic.specs.Arith.{ieee}
use Rattle.coordinates.specs.declared.coords.Face.{Face}
use Rattle.coordinates.specs.declared.lonlat.LonLat.{LonLat}
use Rattle.coordinates.specs.declared.spherical.Spherical.{Spherical}
use Rattle.set.specs.Set.{Set}
use Rattle.set.specs.Open.{open_given, set_opened}
use Rattle.dodecahedron.specs.Work.{used_of}
use Rattle.dodecahedron.specs.Calls.{forward_given, inverse_given, place_given, unplace_given}
use Rattle.place_list.specs.Uses.{used_by_list}
use Rattle.region_work.specs.Uses.{used_by_region}
use Rattle.histories.specs.Panel.{used_by_step}
use Rattle.stores.specs.Used.{all_written}
use Rattle.stores.specs.declared.used.Used.{Used}
use Rattle.stores.specs.declared.show.StoreKind.{StoreKind}

-- where a list stands: the set, and the table that calls take
pub record Standing : Type 0 where
  pub table : List Float
  pub set : Set

abbrev pub standing : List Float → Set → Standing
standing table s = record { table = table; set = s }

-- a call that is lent the set, with its other arguments: any table, any floats, any origin, any slot
pub data Call : Type 0 where
  opens : List Float → Call
  forwards : Spherical → ℕ → Call
  inverses : Face → ℕ → Call
  places : LonLat → Call
  unplaces : Face → ℕ → Call
  -- place_list, lent so many results
  lists : List LonLat → ℕ → Call
  -- a region (Paper 4), lent so many point places
  regions : List LonLat → ℕ → Call
  -- a step of the caption panel, on a block of registers
  steps : List ℕ → Call
  shows : StoreKind → ℕ → Call
  -- show's companion
  asks : StoreKind → ℕ → Call

-- ---- what a call does to the set

-- Open writes the set for its table, by its answer; a call that projects writes the slots that it uses, by its answer: those of each
-- projection that it carries, in turn; show and its companion read.
pub data Effect : Type 0 where
  writes : List Float → Given (Unit {0}) → Effect
  uses : Given (List Used) → Effect
  reads : Effect

-- a call that carries one projection
abbrev pub alone : Given Used → Given (List Used)
alone (refused n) = refused n
alone (answered u) = answered (u ∷ [])

abbrev pub effect : Standing → Call → Effect
effect s (opens table) = writes table (open_given ieee table s.set)
effect s (forwards p o) = uses (alone (used_of (forward_given ieee s.table s.set p o)))
effect s (inverses f o) = uses (alone (used_of (inverse_given ieee s.table s.set f o)))
effect s (places p) = uses (alone (used_of (place_given ieee s.table s.set p)))
effect s (unplaces f o) = uses (alone (used_of (unplace_given ieee s.table s.set f o)))
effect s (lists ps results) = uses (used_by_list ieee s.table s.set ps results)
effect s (regions ps points) = uses (used_by_region ieee s.table s.set ps points)
effect s (steps b) = uses (used_by_step ieee s.table s.set b)
effect s (shows kind k) = reads
effect s (asks kind k) = reads

-- the table that calls take after an open brought another: the old one, where it was refused
abbrev pub table_opened : List Float → List Float → Given (Unit {0}) → List Float
table_opened old new (refused n) = old
table_opened old new (answered u) = new

abbrev pub set_used_all : Set → Given (List Used) → Set
set_used_all s (refused n) = s
set_used_all s (answered us) = all_written ieee s us

-- the set as the contracts leave it; show and its companion are lent nothing to write
abbrev pub after : Standing → Effect → Standing
after s (writes table g) = standing (table_opened s.table table g) (set_opened ieee table s.set g)
after s (uses g) = standing s.table (set_used_all s.set g)
after s reads = s

abbrev pub step : Standing → Call → Standing
step s c = after s (effect s c)

abbrev pub run : Standing → List Call → Standing
run s [] = s
run s (c ∷ cs) = run (step s c) cs
