-- What Paper 12 asks of the grants, as one claim about a list of wishes and a list of grants. Definitions only.
use Rattle.std.specs.Prelude.{ℕ, ◌+◌, ◌-◌, ◌≤◌, ◌<◌, min, ◌≡◌, List, length, get_or}
use Rattle.turns.specs.Turns.{CALLS, SHARE, sum}

-- a channel's number in a list; a channel that there is not has 0
abbrev pub of : List ℕ → ℕ → ℕ
of list channel = get_or list channel 0

-- what a channel has beyond its first share
unfoldable pub beyond : List ℕ → List ℕ → ℕ → ℕ
beyond wishes grants channel = of grants channel - min SHARE (of wishes channel)

pub record Fair (wishes grants : List ℕ) : Type 0 where
  pub for_each : length grants ≡ length wishes
  -- "every channel gets at least the smaller of 16 and its wish"
  pub at_least : (k : ℕ) → min SHARE (of wishes k) ≤ of grants k
  -- "and never above its wish"
  pub at_most : (k : ℕ) → of grants k ≤ of wishes k
  -- "the grants add up to the smaller of 256 and the total of wishes"
  pub total : sum grants ≡ min CALLS (sum wishes)
  -- "singly in channel order, round after round, to those still short": beyond the first shares, who is still short has no less than a channel behind it ..
  pub not_behind : (i j : ℕ) → i < j → of grants i < of wishes i → beyond wishes grants j ≤ beyond wishes grants i
  -- .. and at most one less than a channel before it
  pub one_behind : (i j : ℕ) → i < j → of grants j < of wishes j → beyond wishes grants i ≤ beyond wishes grants j + 1
