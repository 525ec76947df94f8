-- A region's answer as C is told of it.
--     told                 the contracts of the call and of what is told of its answer are the C function's
--     no_rows, with_rows   a region with a table, by what is known of its rows
--     c_functions          those three: what a C function is proved by, with no answer
-- Assumes nothing.
use mathlib.Core.Path.{◌≡◌, refl, ◌∙◌, ap}
use Prim.Native.Nat.{ℕ}
use mathlib.Core.List.{List}
use lib.Ieee.{Float}
use denote.Triple.Both.{Both}
use Rattle.answer.specs.Given.{Given, answered, refused, status}
use Rattle.arithmetic.specs.Arith.{Arith}
use Rattle.coordinates.specs.declared.coords.Face.{Face}
use Rattle.coordinates.specs.declared.lonlat.LonLat.{LonLat}
use Rattle.set.specs.Set.{Set}
use Rattle.border.specs.Returns.{Returns, written}
use Rattle.border.specs.Tables.{rows_given}
use Rattle.border.proofs.Tables.{rows_fit, rows_are, rows_off, rows_20}
use Rattle.caption_box.specs.declared.CaptionBox.{CaptionBox}
use Rattle.region_work.specs.declared.region.Region.{Region}
use Rattle.region_work.specs.Region.{RegionCalled, region_called, region_on}
use Rattle.region_border.specs.Regions.{origin_of, box_of, origin_and_box, returned, in_c, region_with}

-- what is written of an answer, part by part
parts : (g : Given Region) (old : ℕ × CaptionBox) → written origin_and_box g old ≡ (written origin_of g old.0, written box_of g old.1)
parts (answered r) old = refl
parts (refused n) old = refl

pub told : (g : Given Region) (c : RegionCalled) (n : ℕ) (points : List Face) (to : Both (ℕ × CaptionBox) (ℕ × CaptionBox)) (s : Set)
    → region_called g points s ≡ c → Returns g n to origin_and_box → returned n points to.exit.0 to.exit.1 s ≡ in_c c to.entry.0 to.entry.1
told g c n points to s e known =
    let both : to.exit ≡ (written origin_of g to.entry.0, written box_of g to.entry.1) = known.to_is ∙ parts g to.entry in
    ap (λ (k : ℕ). returned k points to.exit.0 to.exit.1 s) known.status_is
    ∙ ap (λ (p : ℕ × CaptionBox). returned (status g) points p.0 p.1 s) both
    ∙ ap (λ (d : RegionCalled). in_c d to.entry.0 to.entry.1) e

module _ (A : Arith) (table : List Float) (s : Set) (ps : List LonLat) (rs : List Face) where
  pub no_rows : (n : ℕ) → refused n ≡ rows_given table → region_with A table s ps rs ≡ region_called (refused n) rs s
  unfolding region_with
  no_rows n e = rw (rows_off table n e, rows_20 table n e)

  -- the rows that are handed over are the table
  pub with_rows : (rows : List Float) → answered rows ≡ rows_given table → region_with A table s ps rs ≡ region_on A rows s ps rs
  unfolding region_with
  with_rows rows e = rw (rows_fit table rows e, rows_are table rows e)

pub ruleset c_functions = (told, no_rows, with_rows)
