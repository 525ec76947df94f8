-- `line::write_decimal` meets its contract: the digits fill the columns that are lent for them. Assumes nothing.
use mathlib.Core.Path.{◌≡◌, sym, ap, ◌∙◌}
use Prim.Native.Nat.{◌+◌, ◌-◌}
use native.Mathlib.Omega.{arith}
use lib.ListN.{drop, set, length-drop, length-set}
use lib.Seq.{length-take-le}
use Rattle.decimal.specs.Decimal as D
use Rattle.decimal.proofs.Columns.{aligned_whole}
use Rattle.stores.proofs.Runs.{put_marked}
use Rattle.strike_records.specs.Line.{SPACE, decimal}
use Rattle.strike_records.proofs.Decimal.{same_decimal}
use Rattle.strike_records.proofs.line.write_decimal.Goals as goal

pub returns : goal.returns
returns c =
    let a = c.args in
    let same = ap D.decimal c.from.ensures ∙ sym (same_decimal a.n (omega arith)) in
    let wide = length-take-le (c.digits.result) (drop (a.at + 1) (set a.out.now a.at SPACE))
    (simp (length-drop, length-set) (omega (arith, c.digits.ensures.few))) in
    let columns = a.at + 1 + c.digits.result - (a.at + 1) in
    let exact : columns ≡ c.digits.result = omega arith in
    let written : c.write_number.new.columns ≡ decimal a.n =
    (rw (exact, wide, same) at c.write_number.ensures) ∙ aligned_whole _ (decimal a.n) (sym c.digits.ensures.count) in
    record {
      end_is = omega (arith, c.digits.ensures.count);
      now_is = put_marked a.out.now a.at (a.at + 1 + c.digits.result) SPACE _ (decimal a.n) (omega arith) written (omega (arith, c.digits.ensures.count));
    }
