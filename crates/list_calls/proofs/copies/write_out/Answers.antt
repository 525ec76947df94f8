-- `copies::write_out` meets its contract. Assumes nothing.
use Rattle.std.proofs.Common.{◌≡◌, ℕ, length, refl, ap, ◌∙◌}
use Rattle.std.specs.Prelude.{min}
use Rattle.list_calls.specs.Copies.{written_out}
use Rattle.list_calls.proofs.copies.write_out.Goals as goal

pub returns : goal.returns
unfolding written_out
returns c =
    let places = length c.args.points.now in
    let few : c.min-n.result ≡ min (min c.args.count 256) places = c.min-n.ensures ∙ ap (λ (n : ℕ). min n places) c.min.ensures in
    rw (c.copy_from_slice.ensures.after, few) refl
