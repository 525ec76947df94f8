-- `last_level` meets its contract. The loop's invariant: with the level all calls suffice, and the two counts are those of the level. The measure is what
-- remains. Assumes nothing.
use mathlib.Core.Path.{ap}
use Prim.Native.Nat.{ℕ, ◌-◌}
use native.Mathlib.Omega.{arith}
use Rattle.turns.specs.Turns.{CALLS}
use Rattle.turns.proofs.Level.{first_within, jump_fits, jump_within, jump_more}
use Rattle.fair_turns.proofs.last_level.Goals as goal

pub handed_out-left-requires : goal.handed_out-left-requires
handed_out-left-requires c = first_within c.args.wishes.now c.requires

pub overflow_sub-left : goal.overflow_sub-left
overflow_sub-left c =
    omega (arith, first_within c.args.wishes.now c.requires, c.handed_out-left.ensures)

pub loop-short-init : goal.loop-short-init
loop-short-init c =
    record {
      first = omega arith;
      within = first_within c.args.wishes.now c.requires;
      left_is = ap (λ (n : ℕ). CALLS - n) c.handed_out-left.ensures;
      short_is = c.short_of-short.ensures;
    }

pub overflow_add-level : goal.overflow_add-level
overflow_add-level c = omega (arith, jump_fits c.loop-short.invariant c.loop-short-test.true c.if-short-left.true)

pub handed_out-left-requires-in-loop-short : goal.handed_out-left-requires-in-loop-short
handed_out-left-requires-in-loop-short c = jump_within c.loop-short.invariant c.loop-short-test.true c.if-short-left.true

pub overflow_sub-left-in-loop-short : goal.overflow_sub-left-in-loop-short
overflow_sub-left-in-loop-short c =
    omega (arith, jump_within c.loop-short.invariant c.loop-short-test.true c.if-short-left.true, c.handed_out-left-in-loop-short.ensures)

pub loop-short-smaller : goal.loop-short-smaller
loop-short-smaller c =
    let loop = c.loop-short in
    let some = c.loop-short-test.true in
    let due = c.if-short-left.true in
    omega (arith, c.handed_out-left-in-loop-short.ensures, loop.invariant.left_is, jump_within loop.invariant some due, jump_more loop.invariant some due)

pub loop-short-preserved : goal.loop-short-preserved
loop-short-preserved c =
    let loop = c.loop-short in
    record {
      first = omega (arith, loop.invariant.first);
      within = jump_within loop.invariant c.loop-short-test.true c.if-short-left.true;
      left_is = ap (λ (n : ℕ). CALLS - n) c.handed_out-left-in-loop-short.ensures;
      short_is = c.short_of-short-in-loop-short.ensures;
    }
