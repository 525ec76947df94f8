-- `frame::add` meets its contract: a row that is near is earlier, and otherwise the lookup was refused. Assumes nothing.
use mathlib.Core.Path.{◌≡◌, refl, sym, ◌∙◌}
use mathlib.Core.Bool.{true, false, true≢false}
use Prim.Native.Nat.{ℕ}
use native.Mathlib.Numerals.{add-one, add-two}
use native.Mathlib.Omega.{arith}
use Rattle.std.specs.Prelude.{Result, Ok, Err, is_ok}
use Rattle.answer.specs.Given.{answered, refused}
use Rattle.answer.specs.Answer.{number_of, given}
use Rattle.answer.specs.declared.Refusal.{Refusal}
use Rattle.arithmetic.specs.Arith.{ieee}
use Rattle.coordinates.specs.declared.coords.Cartesian.{Cartesian}
use Rattle.crs.specs.Frame.{row}
use Rattle.crs.proofs.Stores.{take_sets, drop_sets}
use Rattle.crs.proofs.Rows.{dropped, added}
use Rattle.crs.proofs.frame.add.Goals as goal

found : (r : Result Cartesian Refusal) → is_ok r ≡ true → (v : Cartesian) × (given r ≡ answered v)
found (Ok v) e = (v, refl)
found (Err n) e = absurd (true≢false (sym e))

missed : (r : Result Cartesian Refusal) → is_ok r ≡ false → (n : ℕ) × (given r ≡ refused n)
missed (Ok v) e = absurd (true≢false e)
missed (Err n) e = (number_of n, refl)

pub returns-then-is_ok : goal.returns-then-is_ok
returns-then-is_ok c =
    let earlier = found _ (sym c.is_ok.ensures.value ∙ c.if-is_ok.true) in
    record {
      rows = dropped ieee _ c.args.point c.normalize-row.result c.normalize-row.ensures _ (sym c.get_vertex.ensures ∙ earlier.1);
      behind = refl;
      used = (omega arith, omega arith);
    }

pub returns : goal.returns
returns c =
    let a = c.args in
    let p = c.normalize-row.result in
    let none = missed _ (sym c.is_ok.ensures.value ∙ c.if-is_ok.false) in
    let f = take_sets a.rows.now a.used (row p) (omega arith) in
    let g = drop_sets a.rows.now a.used (row p) (omega arith) in
    let e = added ieee _ a.point p c.normalize-row.ensures _ (sym c.get_vertex.ensures ∙ none.1) in
    rw (add-one a.used, add-two a.used) (record { rows = f ∙ e; behind = g; used = (omega arith, omega arith) })
