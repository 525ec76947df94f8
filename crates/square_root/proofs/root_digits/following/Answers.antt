-- `root_digits::following` meets its contract: t - r is t with two digits changed. Assumes nothing.
use Rattle.std.proofs.Common.{◌+◌, ◌-◌, ◌*◌, Bool, cond, sym, ap, ◌∙◌}
use borrow.Author.Tests.{lt-leb}
use Rattle.square_root.proofs.Marked.{changed}
use Rattle.square_root.proofs.root_digits.following.Goals as goal

-- the digit is 0
pub returns-then-y-t : goal.returns-then-y-t
returns-then-y-t c =
    let a = c.args in
    changed a.t a.r c.requires.1
    ∙ sym (ap (λ (u : Bool). cond u (a.t + 3 * a.r) (a.t - a.r)) (lt-leb a.t a.y c.if-y-t.true))
