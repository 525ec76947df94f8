-- `fair_turns` meets its contract: one round from the level where whole rounds end gives the grants. Assumes nothing.
use mathlib.Core.Path.{refl, ap, ◌∙◌}
use Prim.Native.Nat.{ℕ, ◌-◌}
use borrow.Author.Tests.{eq-eqb, ne_eqb}
use Rattle.turns.specs.Turns.{CALLS, capped, round, turns_given}
use Rattle.turns.proofs.Level.{last_round_is}
use Rattle.fair_turns.proofs.fair_turns.Goals as goal

pub returns-then-wishes-ne-CHANNELS : goal.returns-then-wishes-ne-CHANNELS
unfolding turns_given
returns-then-wishes-ne-CHANNELS c = simp (ne_eqb _ _ c.if-wishes-ne-CHANNELS.true) (record { answer = refl; grants = refl })

pub returns-then-grants-ne-CHANNELS : goal.returns-then-grants-ne-CHANNELS
unfolding turns_given
returns-then-grants-ne-CHANNELS c = simp (eq-eqb _ _ c.if-wishes-ne-CHANNELS.false, ne_eqb _ _ c.if-grants-ne-CHANNELS.true)
    (record { answer = refl; grants = refl })

pub returns : goal.returns
unfolding turns_given
returns c =
    let wishes = c.args.wishes.now in
    let level = c.last_level-level.result in
    let left = ap (λ (n : ℕ). round (CALLS - n) wishes (capped level wishes)) c.handed_out-left.ensures in
    simp (eq-eqb _ _ c.if-wishes-ne-CHANNELS.false, eq-eqb _ _ c.if-grants-ne-CHANNELS.false) (record {
      answer = refl;
      grants = c.last_round.ensures ∙ left ∙ last_round_is wishes level c.last_level-level.ensures;
    })
