-- Demand 3 for the built-in table, as it was before tables could be brought: every open of the list is one without a table, which is
-- open with the built-in one. Definitions only.
use Rattle.std.specs.Prelude.{◌≡◌, List, [], ◌∷◌}
use Rattle.answer.specs.Given.{passed}
use Rattle.arithmetic.specs.Arith.{ieee}
use Rattle.origin.specs.Origins.{ORIGINS}
use Rattle.set.specs.Set.{Set}
use Rattle.set.specs.Open.{open_given}
use Rattle.histories.specs.Lists.{Call, opens, forwards, inverses, places, unplaces, lists, regions, shows, asks, steps}
use Rattle.histories.specs.EveryList.{SameAnswers, EveryList, opened, left, last_open}

-- a call that brings no other table
abbrev pub BuiltIn : Call → Type 0
BuiltIn (opens table) = table ≡ ORIGINS
BuiltIn (forwards p o) = Unit {0}
BuiltIn (inverses f o) = Unit {0}
BuiltIn (places p) = Unit {0}
BuiltIn (unplaces f o) = Unit {0}
BuiltIn (lists ps results) = Unit {0}
BuiltIn (regions ps points) = Unit {0}
BuiltIn (steps b) = Unit {0}
BuiltIn (shows kind k) = Unit {0}
BuiltIn (asks kind k) = Unit {0}

abbrev pub AllBuiltIn : List Call → Type 0
AllBuiltIn [] = Unit {0}
AllBuiltIn (c ∷ cs) = BuiltIn c × AllBuiltIn cs

pub record EveryBuiltIn (b : Set) (cs : List Call) : Type 0 where
  -- all of demand 3
  pub list : EveryList ORIGINS b cs
  -- calls take the built-in table, and so did the last answered open
  pub table : (left ORIGINS b cs).table ≡ ORIGINS
  pub last_table : (last_open ORIGINS b cs).table ≡ ORIGINS
  -- the calls without a table answer as on a newly opened set
  pub answers : (n : Set) → open_given ieee ORIGINS n ≡ passed → SameAnswers ORIGINS (left ORIGINS b cs).set (opened ORIGINS n).set

abbrev pub Demand3BuiltIn : Type 0
Demand3BuiltIn = (b : Set) → open_given ieee ORIGINS b ≡ passed → (cs : List Call) → AllBuiltIn cs → EveryBuiltIn b cs
