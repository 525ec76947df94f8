-- `write_number` meets its contract. The loop's invariant: the columns of what is left of the number, with those that stand behind them, are all
-- of its columns. Assumes nothing.
use mathlib.Core.Path.{◌≡◌, refl, sym, ap, ◌∙◌}
use mathlib.Core.List.{List, ◌∷◌, ◌++◌}
use Prim.Native.Nat.{ℕ, suc, ◌-◌, ◌/◌, ◌%◌}
use native.Mathlib.Omega.{arith}
use lib.ListN.{length, drop, set, length-set, drop_of_length-le}
use Rattle.decimal.specs.Decimal.{digit, decimal}
use Rattle.decimal.specs.Columns.{right_aligned}
use Rattle.decimal.proofs.Columns.{columns_of, number_aligned, column_more, drop_stored}
use Rattle.decimal.proofs.write_number.Goals as goal

-- the last digit
begun : (l : List ℕ) (n j : ℕ) → suc j ≡ length l → columns_of j (n / 10) ++ drop j (set l j (digit (n % 10))) ≡ right_aligned (length l) (decimal n)
begun l n j s =
    let behind = drop_of_length-le l {i = suc j} (omega arith) in
    ap (λ (t : List ℕ). columns_of j (n / 10) ++ t) (drop_stored l j (digit (n % 10)) (omega arith) ∙ ap (λ (t : List ℕ). digit (n % 10) ∷ t) behind)
    ∙ number_aligned j n ∙ ap (λ (w : ℕ). right_aligned w (decimal n)) s

pub loop-at-init : goal.loop-at-init
loop-at-init c =
    let a = c.args in
    let l = a.columns.now in
    let j = length l - 1 in
    let same = length-set l j (digit (a.n % 10)) in
    (omega arith, refl, begun l a.n j (omega arith) ∙ ap (λ (w : ℕ). right_aligned w (decimal a.n)) (sym same))

pub loop-at-preserved : goal.loop-at-preserved
loop-at-preserved c =
    let l = c.loop-at in
    let j = l.at - 1 in
    let more = column_more l.at j l.rest c.column.result l.columns _ (omega arith) (omega arith) c.column.ensures l.invariant.2 in
    (omega arith, length-set l.columns j c.column.result ∙ l.invariant.1, more)

pub returns : goal.returns
unfolding columns_of
returns c =
    let l = c.loop-at in
    let a = c.args in
    let e : l.at ≡ 0 = omega arith in
    let all = rw e at l.invariant.2 in
    all ∙ ap (λ (w : ℕ). right_aligned w (decimal a.n)) (length-set a.columns.now (length a.columns.now - 1) (digit (a.n % 10)))
