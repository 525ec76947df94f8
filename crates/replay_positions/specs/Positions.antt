-- The position that a record puts, and what open comes to at one, as an outcome. Definitions only.
use Rattle.std.specs.Prelude.{List, Float, None, from_bits, take}
use Rattle.std.specs.Float.{binary64}
use Rattle.answer.specs.Given.{status}
use Rattle.arithmetic.specs.Arith.{ieee}
use Rattle.coordinates.specs.CoordinateTransforms.{degrees}
use Rattle.coordinates.specs.declared.lonlat.LonLat.{LonLat}
use Rattle.origin.specs.Origins.{ORIGINS}
use Rattle.replay.specs.Outcome.{outcome_of}
use Rattle.replay.specs.Record.{word_at}
use Rattle.replay.specs.declared.outcome.Outcome.{Outcome}
use Rattle.replay.specs.declared.record.Record.{Record}
use Rattle.set.specs.Set.{Set, set_of}
use Rattle.set.specs.Open.{open_given}

-- longitude and latitude stand behind the position's number
abbrev pub lon_lat_in : Record → LonLat
lon_lat_in r =
    record {
      longitude = degrees (from_bits binary64 (word_at r.words 1));
      latitude = degrees (from_bits binary64 (word_at r.words 2));
    }

-- the first numbers of three buffers, as many of each as the record says
abbrev pub first_in : Record → List Float → List Float → List Float → Set
first_in r frame faces spheres =
    set_of (take (word_at r.words 0) frame) (take (word_at r.words 1) faces) (take (word_at r.words 2) spheres)

-- the status of open with the built-in table, which has no answers
abbrev pub open_outcome : Set → Outcome
open_outcome s = outcome_of (status (open_given ieee ORIGINS s)) None None None
