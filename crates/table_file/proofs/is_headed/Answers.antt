-- `is_headed` meets its contract. Assumes nothing.
use mathlib.Core.Path.{◌∙◌}
use native.Mathlib.Omega.{arith}
use mathlib.Core.Bool.{and_assoc}
use borrow.Author.Tests.{eq-eqb, ne_eqb}
use Rattle.answer.proofs.Bytes.{marked}
use Rattle.table_file.specs.TableFile.{headed}
use Rattle.table_file.proofs.is_headed.Goals as goal

pub returns-then-bytes-eq-SIZE : goal.returns-then-bytes-eq-SIZE
unfolding headed
returns-then-bytes-eq-SIZE c =
    let tests = marked c.args.bytes.now 69 65 84 0 1 (omega arith) in
    c.starts_with.ensures.value ∙ rw (eq-eqb _ _ c.if-bytes-eq-SIZE.true) (simp and_assoc tests)

pub returns-else-bytes-eq-SIZE : goal.returns-else-bytes-eq-SIZE
unfolding headed
returns-else-bytes-eq-SIZE c = rw (ne_eqb _ _ c.if-bytes-eq-SIZE.false)
