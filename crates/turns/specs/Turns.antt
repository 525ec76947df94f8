-- Document 02, Paper 12, "Fair turns for sixteen channels": how a turn's calls are handed out. Wishes and grants are lists in channel order. Definitions only.
use Rattle.std.specs.Prelude.{ℕ, zero, suc, ◌+◌, ◌-◌, min, cond, not, eqb, ltb, length}
use mathlib.Core.List.{List, [], ◌∷◌, map, foldr}
use Rattle.answer.specs.Given.{Given, answered, refused, passed, refuse_if}

-- "A turn has 256 place calls to hand out."
abbrev pub CALLS : ℕ
CALLS = 256

-- "Each of 16 channels states its wish"
abbrev pub CHANNELS : ℕ
CHANNELS = 16

-- "the smaller of its wish and 16"
abbrev pub SHARE : ℕ
SHARE = 16

-- the total of wishes, or of grants
abbrev pub sum : List ℕ → ℕ
sum numbers = foldr ◌+◌ 0 numbers

-- the smaller of its wish and a number, for each channel
abbrev pub capped : ℕ → List ℕ → List ℕ
capped most wishes = map (λ wish. min wish most) wishes

-- "A channel first gets the smaller of its wish and 16."
abbrev pub first_shares : List ℕ → List ℕ
first_shares wishes = capped SHARE wishes

-- "What remains": of 256 calls, those that no channel has
abbrev pub remaining : List ℕ → ℕ
remaining grants = CALLS - sum grants

-- "those still short": 1 for a channel with less than its wish, else 0
unfoldable pub still_short : ℕ → ℕ → ℕ
still_short wish grant = cond (ltb grant wish) 1 0

-- "handed out singly .. to those still short": one call, while one is left
abbrev pub single : ℕ → ℕ → ℕ → ℕ
single left wish grant = min left (still_short wish grant)

-- "in channel order": one round with so many calls left, of which the channels behind the first have what it leaves
unfoldable pub round : ℕ → List ℕ → List ℕ → List ℕ
round left [] grants = grants
round left (wish ∷ wishes) [] = []
round left (wish ∷ wishes) (grant ∷ grants) =
    let one = single left wish grant in
    (grant + one) ∷ round (left - one) wishes grants

-- "round after round": so many rounds, each with what then remains
unfoldable pub rounds : ℕ → List ℕ → List ℕ → List ℕ
rounds zero wishes grants = grants
rounds (suc n) wishes grants = rounds n wishes (round (remaining grants) wishes grants)

-- The grants. A round hands out a call at least while one is left and a channel is short, and afterwards nothing; so 256 rounds hand out all that is ever
-- handed out (`later_rounds_idle` in proofs/Consequences).
unfoldable pub fair_turns : List ℕ → List ℕ
fair_turns wishes = rounds CALLS wishes (first_shares wishes)

-- ---- the call

-- "Refusal 24: not exactly 16 wishes, tried first .. Refusal 25: not exactly 16 grant places, tried next."
unfoldable pub turns_given : List ℕ → List ℕ → Given (Unit {0})
turns_given wishes grants =
    refuse_if (not (eqb (length wishes) CHANNELS)) 24
    (refuse_if (not (eqb (length grants) CHANNELS)) 25
    passed)

-- what the lent places hold then, by what the call gave: "the lent grants unchanged" where it refused
abbrev pub grants_after : Given (Unit {0}) → List ℕ → List ℕ → List ℕ
grants_after (refused n) wishes grants = grants
grants_after (answered u) wishes grants = fair_turns wishes
