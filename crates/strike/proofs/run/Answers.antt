-- `run` meets its contract: the session begins as open answers or refuses, on the set that open leaves, and ends as `answer_all` says;
-- and where no lines are lost, the three parts of its lines are those of the session with all its bytes in a row. Assumes nothing.
use Rattle.std.proofs.Common.{rules}
use Rattle.set.specs.Set.{set_of}
use Rattle.set.specs.Lent.{held}
use Rattle.strike_session.specs.Steps.{state_of}
use Rattle.strike.proofs.Together.{whole}
use Rattle.strike.proofs.run.Goals as goal

pub returns : goal.returns
returns g c =
    let a = c.args in
    let begin = c.begin-begun in
    let all = c.answer_all-last in
    let s₀ = set_of a.frame.now a.face_store.now a.sphere_store.now in
    let s₁ = set_of begin.new.frame begin.new.face_store begin.new.sphere_store in
    let end = state_of all.result.stage all.result.kept (held all.new.set) all.new.buffer in
    let line = c.ends_lost-unended.ensures in
    whole s₀ s₁ a.buffer.now end c.requires begin.ensures begin.auto.out all.ensures.ends
    c.loses-unbegun.ensures line.before line.line (search rules)
