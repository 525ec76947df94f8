-- `input::read_all` meets its contract: each step is one more behind the reads before it. Assumes nothing.
use mathlib.Core.Path.{◌≡◌, refl, sym, subst}
use mathlib.Core.Bool.{Bool, false}
use mathlib.Core.List.{List}
use Rattle.std.proofs.Common.{rules}
use Prim.Native.Nat.{ℕ, ◌+◌, ◌-◌, ◌*◌, ◌/◌, ◌≤◌, zero-le}
use native.Mathlib.Omega.{arith}
use lib.ListN.{length}
use lib.Seq.{length-take-le}
use Rattle.std.specs.Io.KnownBytes.{Consumes, Appends}
use Rattle.std.proofs.KnownBytes.{Consumes-nil, Appends-nil}
use Rattle.strike_records.specs.Line.{LINE}
use Rattle.set.specs.Lent.{held}
use Rattle.std.specs.declared.option.Option.{Option}
use Rattle.strike_session.specs.Steps.{State, state_of, Read, Stepped, Passes, step_bytes, step_lines, none, bytes_of, lines_of}
use Rattle.strike_session.proofs.Counted.{Counted, some_left, counted_first, counted_on}
use Rattle.strike_session.proofs.Passed.{stepped_on, none_lost, passes_on}
use Rattle.strike_session.proofs.input.read_all.Invariants.{READS}
use Rattle.strike_session.proofs.input.read_all.Goals as goal

-- one read fewer is left
fewer : (n i : ℕ) → n - i - 1 ≡ n - (i + 1)
fewer n i = omega arith

-- a step behind the reads before it, of which no lines were lost
one_more :
    {a b c x y z : Option (List ℕ)} {here space room : ℕ} {s t u : State} {before out : List ℕ} {ended lost lost' : Bool}
    → here ≡ space → length before ≡ room → lost ≡ false
    → (r : Read space room s t) × Passes a b x y (bytes_of r) (lines_of r) lost
    → (p : Stepped here t u before out ended lost') × Passes b c y z (step_bytes p) (step_lines p) lost'
    → (r : Read space room s u) × Passes a c x z (bytes_of r) (lines_of r) lost'
one_more {a = a} {c = c} {x = x} {z = z} same roomy unlost reads stepped =
    let step = rw same at stepped in
    let next = stepped_on _ _ _ _ _ _ _ roomy reads.0 _ _ step.0 in
    let both = passes_on _ _ _ _ _ _ _ _ _ _ _ _ unlost reads.1 step.1 in (
      next.0,
      record {
        taken = subst (Consumes a c) (sym next.1) both.taken;
        given = λ e. subst (Appends x z) (sym next.2) (both.given e);
      },
    )

pub loop-read-init : goal.loop-read-init
loop-read-init g c = (
  refl,
  refl,
  zero-le,
  (none, record { taken = Consumes-nil _; given = λ e. Appends-nil _ }),
  refl,
  counted_first c.args.stage c.requires.0,
  search,
)

pub loop-read-preserved : goal.loop-read-preserved
loop-read-preserved g c =
    let i = c.loop-read in
    let inv = i.invariant in
    let q = c.step-at in
    let t = state_of i.at.stage i.at.kept (held i.set) i.buffer in
    let u = state_of q.result.stage q.result.kept (held q.new.set) q.new.buffer in
    let left = READS - i._read in
    let lasting = subst (Counted left i.at.stage) (sym (length-take-le i.at.kept i.buffer inv.2)) inv.5 in
    let roomy : (length i.buffer / 10 + 1) * LINE ≤ length i.out = omega (arith, c.requires.1.1, inv.0, inv.1) in
    let lasts = counted_on left (length i.buffer) t u i.out q.new.out roomy q.result.ended q.result.lost q.ensures.stepped.0 c.if-at.false lasting in (
      search rules,
      search rules,
      q.ensures.held,
      one_more inv.0 inv.1 inv.4 inv.3 q.ensures.stepped,
      none_lost q.result.ended q.result.lost q.ensures.stepped.0 c.if-at.false,
      subst (λ (n : ℕ). Counted n q.result.stage q.result.kept) (fewer READS i._read)
          (subst (Counted (left - 1) q.result.stage) (length-take-le q.result.kept q.new.buffer q.ensures.held) lasts),
      search,
    )

pub returns-then-at : goal.returns-then-at
returns-then-at g c =
    let inv = c.loop-read.invariant in
    let q = c.step-at in
    record {
      same = search;
      ended = c.if-at.true;
      read = one_more inv.0 inv.1 inv.4 inv.3 q.ensures.stepped;
      held = q.ensures.held;
    }

-- the reads cannot run out
pub returns : goal.returns
returns g c =
    let i = c.loop-read in
    let some = some_left (READS - i._read) i.at.stage i.at.kept i.invariant.5 in
    absurd (omega (arith, some, c.loop-read-test.false))
