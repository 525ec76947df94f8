-- Counts, of which one goes up by one. Definitions only.
use Rattle.std.specs.Prelude.{ℕ, ◌+◌, ◌%◌, ◌^◌, Bool, true, false, List, Option, Some, None, replicate, slice_get, slice_set}
use Rattle.replay_tally.specs.declared.Count.{Count}

-- one more; 2^64 count as none
abbrev pub one_more : ℕ → ℕ
one_more n = (n + 1) % 2 ^ 64

-- one more that was compared, and one more that differs only where a test fails
abbrev pub compared_by : Bool → Count → Count
compared_by true c = record { compared = one_more c.compared; differ = c.differ }
compared_by false c = record { compared = one_more c.compared; differ = one_more c.differ }

-- a count put where one stands, if one stands there
abbrev pub set_where : List Count → ℕ → Bool → Option Count → List Count
set_where counts number agrees (Some c) = slice_set counts number (compared_by agrees c)
set_where counts number agrees None = counts

-- the counts with the one of this number so changed; a number beyond them is not counted
abbrev pub counted : Bool → ℕ → List Count → List Count
counted agrees number counts = set_where counts number agrees (slice_get counts number)

-- nothing is counted
abbrev pub none_counted : List Count
none_counted = replicate 32 (record { compared = 0; differ = 0 })
