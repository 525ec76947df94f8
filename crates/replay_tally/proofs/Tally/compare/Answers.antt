-- `Tally::compare` meets its contract: what is given is compared with the record's outcome. Assumes nothing.
use Rattle.std.proofs.Common.{◌≡◌, ℕ, Bool, ap, ap₂, ◌∙◌}
use Rattle.replay_tally.specs.Compared.{same}
use Rattle.replay_tally.specs.Tally.{counted}
use Rattle.replay_tally.proofs.Tally.compare.Goals as goal

pub returns-in_err-difference : goal.returns-in_err-difference
returns-in_err-difference g c =
    let agrees : c.eq-agrees.result ≡ same c.args.given c.stored-due.result = c.eq-agrees.ensures in
    let as_stored = agrees ∙ ap (same c.args.given) c.stored-due.ensures in
    c.count.ensures ∙ ap₂ (λ (agrees : Bool) (number : ℕ). counted agrees number c.args.self.now.counts) as_stored c.from-number.ensures
