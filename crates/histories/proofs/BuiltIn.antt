-- Demand 3 for the built-in table, as a case of the theorem for every table: where no open of a list brings another, calls take the
-- built-in one. Assumes nothing.
use mathlib.Core.Path.{◌≡◌, refl, sym, subst, ◌∙◌}
use mathlib.Core.List.{List, [], ◌∷◌}
use lib.Ieee.{Float}
use Rattle.answer.specs.Given.{Given, answered, refused, passed}
use Rattle.arithmetic.specs.Arith.{ieee}
use Rattle.coordinates.specs.declared.lonlat.LonLat.{LonLat}
use Rattle.origin.specs.Origins.{ORIGINS}
use Rattle.place_list.specs.Lists.{placed_in_turn}
use Rattle.set.specs.Set.{Set}
use Rattle.set.specs.Open.{open_given}
use Rattle.histories.specs.Lists.{Standing, Call, opens, forwards, inverses, places, unplaces, lists, regions, shows, asks, table_opened, step, run, steps}
use Rattle.histories.specs.EveryList.{SameAnswers, opened, left}
use Rattle.histories.specs.BuiltIn.{BuiltIn, AllBuiltIn, Demand3BuiltIn}
use Rattle.histories.specs.Results.{each}
use Rattle.histories.proofs.Theorem.{every_list, results_alone}

pub table_kept : (s : Standing) (c : Call) → s.table ≡ ORIGINS → BuiltIn c → (step s c).table ≡ ORIGINS
table_kept s (opens t) e is = by (open_given ieee t s.set)
  where
    by : (g : Given (Unit {0})) → table_opened s.table t g ≡ ORIGINS
    by (answered u) = is
    by (refused n) = e
table_kept s (forwards p o) e is = e
table_kept s (inverses f o) e is = e
table_kept s (places p) e is = e
table_kept s (unplaces f o) e is = e
table_kept s (lists ps results) e is = e
table_kept s (regions ps points) e is = e
table_kept s (steps b) e is = e
table_kept s (shows kind k) e is = e
table_kept s (asks kind k) e is = e

run_kept : (cs : List Call) (s : Standing) → s.table ≡ ORIGINS → AllBuiltIn cs → (run s cs).table ≡ ORIGINS
run_kept [] s e all = e
run_kept (c ∷ cs) s e all = run_kept cs (step s c) (table_kept s c e all.0) all.1

-- open with a table leaves that table, answered or not
opened_table : (t : List Float) (b : Set) → (opened t b).table ≡ t
opened_table t b = by (open_given ieee t b)
  where
    by : (g : Given (Unit {0})) → table_opened t t g ≡ t
    by (answered u) = refl
    by (refused n) = refl

pub table_left : (b : Set) (cs : List Call) → AllBuiltIn cs → (left ORIGINS b cs).table ≡ ORIGINS
table_left b cs all = run_kept cs (opened ORIGINS b) (opened_table ORIGINS b) all

-- wherever calls take the built-in table, whatever tables were brought before
pub answers_built_in : (b : Set) → open_given ieee ORIGINS b ≡ passed → (cs : List Call) → (left ORIGINS b cs).table ≡ ORIGINS → (n : Set)
    → open_given ieee ORIGINS n ≡ passed → SameAnswers ORIGINS (left ORIGINS b cs).set (opened ORIGINS n).set
answers_built_in b ready cs is n h =
    let Claim : List Float → Type 0 = λ t. open_given ieee t n ≡ passed → SameAnswers t (left ORIGINS b cs).set (opened t n).set in
    subst Claim is ((every_list ORIGINS b ready cs).answers n) h

pub results_built_in : (b : Set) → open_given ieee ORIGINS b ≡ passed → (cs : List Call) → (left ORIGINS b cs).table ≡ ORIGINS → (n : Set)
    → open_given ieee ORIGINS n ≡ passed → (ps : List LonLat)
    → (placed_in_turn ieee ORIGINS (left ORIGINS b cs).set ps).results ≡ each ORIGINS (opened ORIGINS n).set ps
results_built_in b ready cs is n h ps =
    let Claim : List Float → Type 0 =
    λ t. open_given ieee t n ≡ passed → (placed_in_turn ieee t (left ORIGINS b cs).set ps).results ≡ each t (opened t n).set ps in
    subst Claim is (λ e. results_alone ORIGINS b ready cs n e ps) h

pub every_built_in : Demand3BuiltIn
every_built_in b ready cs all =
    let is = table_left b cs all in
    let list = every_list ORIGINS b ready cs in
    record { list = list; table = is; last_table = sym list.table ∙ is; answers = answers_built_in b ready cs is }
