-- `record::decode` meets its contract. Assumes nothing.
use mathlib.Core.Path.{◌≡◌}
use Prim.Native.Nat.{ℕ}
use native.Mathlib.Omega.{arith}
use borrow.Author.Tests.{eq-eqb, ne_eqb}
use Rattle.strike_records.specs.Record.{request_in}
use Rattle.strike_records.proofs.record.decode.Goals as goal

pub returns-in-1-eq0 : goal.returns-in-1-eq0
unfolding request_in
returns-in-1-eq0 c = rw (eq-eqb _ _ c.in-1-eq0.is-0, eq-eqb _ _ c.in-1-eq0.is-1, c.lon_lat.ensures, request_in)

not_one : (k : ℕ) → k ≡ 2 → k ≡ 1 → ⊥
not_one k e f = omega arith

pub returns-in_default : goal.returns-in_default
unfolding request_in
returns-in_default c = rw (eq-eqb _ _ c.in_default.is-0, ne_eqb _ _ c.in_default.is-1.1, request_in)

pub returns-in-2-default : goal.returns-in-2-default
unfolding request_in
returns-in-2-default c =
    rw (ne_eqb _ 1 (not_one _ c.in-2-default.is-0), eq-eqb _ _ c.in-2-default.is-0, c.face.ensures, request_in)

pub returns-in_default-2 : goal.returns-in_default-2
unfolding request_in
returns-in_default-2 c = rw (ne_eqb _ _ c.in_default.is-0.0.1, ne_eqb _ _ c.in_default.is-0.1, request_in)
