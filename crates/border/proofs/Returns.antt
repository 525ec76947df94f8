-- A C function's statement where its call refused. Assumes nothing.
use mathlib.Core.Path.{◌≡◌, sym, ap, ◌∙◌}
use Prim.Native.Nat.{ℕ}
use denote.Triple.Both.{Both}
use Rattle.answer.specs.Given.{Given, refused, status}
use Rattle.border.specs.Returns.{Returns, written}

pub returns_refusal : {X L : Type 0} {given : Given X} {r : ℕ} {to : Both L L} {f : X → L} (n : ℕ) → given ≡ refused n → r ≡ n
    → to.exit ≡ to.entry → Returns given r to f
returns_refusal {X} {L} {given} {r} {to} {f} n e is kept =
    record { status_is = is ∙ ap status (sym e); to_is = kept ∙ ap (λ (g : Given X). written f g to.entry) (sym e) }
