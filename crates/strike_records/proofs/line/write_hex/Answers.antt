-- `line::write_hex` meets its contract. The loop's invariant: the first i digits of what is left of the number, with the digits that
-- stand behind them, are all sixteen. Assumes nothing.
use mathlib.Core.Path.{◌≡◌, refl}
use mathlib.Core.List.{List, [], ◌∷◌, ◌++◌, append_assoc}
use Prim.Native.Nat.{ℕ, zero, suc, ◌-◌, ◌/◌, ◌%◌, ◌<◌}
use native.Mathlib.Omega.{arith}
use lib.ListN.{length, drop, set, length-set}
use Rattle.strike_records.specs.Line.{hex, digit}
use Rattle.strike_records.proofs.line.write_hex.Goals as goal

drop_set : (l : List ℕ) (j v : ℕ) → j < length l → drop j (set l j v) ≡ v ∷ drop (suc j) l
drop_set [] j v h = absurd (omega arith)
drop_set (x ∷ l) zero v h = refl
drop_set (x ∷ l) (suc j) v h = drop_set l j v (omega arith)

-- one more digit, at the place before those that stand
digit_more : (i j n v : ℕ) (run all : List ℕ) → i ≡ suc j → j < length run → v ≡ digit (n % 16) → hex i n ++ drop i run ≡ all
    → hex j (n / 16) ++ drop j (set run j v) ≡ all
unfolding hex
digit_more i j n v run all s k p e =
    rw (drop_set run j v k, p, ← append_assoc (hex j (n / 16)) (digit (n % 16) ∷ []) (drop (suc j) run)) (rw s at e)

pub loop-i-preserved : goal.loop-i-preserved
loop-i-preserved c =
    let l = c.loop-i in
    let digits = digit_more l.i (l.i - 1) l.rest c.digit.result l.run _ (omega arith) (omega arith) c.digit.ensures l.invariant.1 in
    (simp length-set l.invariant.0, digits)

pub returns : goal.returns
unfolding hex
returns c =
    let l = c.loop-i in
    let e : l.i ≡ 0 = omega arith in
    rw e at l.invariant.1
