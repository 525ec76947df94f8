-- `step::step` meets its contract: it rests, or feeds what arrived, and then the standing is what feeding gives, the reader has lost what arrived, and the
-- writer has the lines where the write did not fail. Assumes nothing.
use mathlib.Core.Path.{◌≡◌, refl, sym, ap, ◌∙◌, subst}
use mathlib.Core.Bool.{false}
use mathlib.Core.List.{List}
use Prim.Native.Nat.{ℕ, ◌≤◌, ◌<◌}
use native.Mathlib.Omega.{arith}
use lib.ListN.{length, take, drop}
use Rattle.std.specs.Io.KnownBytes.{Consumes, Appends}
use Rattle.std.proofs.KnownBytes.{Consumes-nil, Appends-nil}
use Rattle.set.specs.Lent.{held}
use Rattle.strike_session.specs.Pieces.{over}
use Rattle.strike_session.specs.Steps.{rests, feeds}
use Rattle.strike_session.proofs.Arrived.{arrived, arrived_length, next_is, lines_are, lines_first}
use Rattle.strike_session.proofs.step.step.Goals as goal

pub returns-then-is_over-clause-stepped : goal.returns-then-is_over-clause-stepped
returns-then-is_over-clause-stepped g c = (rests refl refl, record { taken = Consumes-nil _; given = λ e. Appends-nil _ })

pub returns-then-n-eq0-clause-stepped : goal.returns-then-n-eq0-clause-stepped
returns-then-n-eq0-clause-stepped g c =
    let a = c.args in
    let r = c.read_behind-n in
    let same = ap (λ (l : List ℕ). record { stage = a.at.stage; set = held a.set.now; kept = l }) r.ensures.buffer_unchanged in
    let none = subst (λ (n : ℕ). Consumes (g.R.Read.remaining a.from.now) (g.R.Read.remaining r.new.from) (take n (drop a.at.kept r.new.buffer)))
    c.if-n-eq0.true r.ensures.bytes in
    (rests same refl, record { taken = none; given = λ e. Appends-nil _ })

pub returns-clause-stepped : goal.returns-clause-stepped
returns-clause-stepped g c =
    let a = c.args in
    let r = c.read_behind-n in
    let t = c.feed_buffer-turn in
    let piece = arrived a.at.kept r.result r.new.buffer in
    let many : length piece ≡ r.result = arrived_length a.at.kept r.result r.new.buffer r.ensures.result_in_bounds in
    let some : 0 < length piece = omega (arith, many, c.if-n-eq0.false) in
    let within : length piece ≤ length a.buffer.now = omega (arith, many, r.ensures.result_in_bounds, r.auto.buffer) in
    let goes : over a.at.stage ≡ false = sym c.is_over.ensures ∙ c.if-is_over.false in
    let same = r.ensures.buffer_unchanged in
    let fed = t.ensures.fed in
    let first = lines_first a.at.kept r.result a.buffer.now same fed in (
      feeds piece some within goes (next_is a.at.kept r.result a.buffer.now same fed) (lines_are a.at.kept r.result a.buffer.now same fed) c.loses-lost.result,
      record {
        taken = r.ensures.bytes;
        given = λ e. subst (Appends (g.W.Write.contents a.to.now) (g.W.Write.contents c.loses-lost.new.to)) first
            (c.loses-lost.ensures e);
      },
    )
