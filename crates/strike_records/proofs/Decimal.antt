-- The numbers of the lines, which are below 1,000, are those of crate `decimal`: so their digits read back are the number. Assumes nothing.
use mathlib.Core.Path.{◌≡◌, refl, sym, ap, ◌∙◌}
use mathlib.Core.List.{List, [], ◌∷◌, ◌++◌}
use Prim.Native.Nat.{ℕ, ◌/◌, ◌%◌, ◌≤◌, ◌<◌}
use native.Mathlib.Omega.{arith}
use native.Mathlib.Nat.{div-div-eq-div-mul}
use mathlib.Core.Bool.{Bool, true, false}
use borrow.Author.Tests.{ltb-true, ltb-false, lt-ltb, le-ltb}
use lib.Dec.{ltb}
use Rattle.decimal.specs.Decimal as D
use Rattle.decimal.specs.Decimal.{digit, number_in}
use Rattle.decimal.proofs.Digits.{one_digit, more_digits, reads_back}
use Rattle.strike_records.specs.Line.{decimal}

two_digits : (n : ℕ) → 10 ≤ n → n < 100 → D.decimal n ≡ digit (n / 10) ∷ digit (n % 10) ∷ []
two_digits n h k = more_digits n h ∙ ap (λ (l : List ℕ). l ++ (digit (n % 10) ∷ [])) (one_digit (n / 10) (omega arith))

three_digits : (n : ℕ) → 100 ≤ n → n < 1000 → D.decimal n ≡ digit (n / 100) ∷ digit (n / 10 % 10) ∷ digit (n % 10) ∷ []
three_digits n h k =
    more_digits n (omega arith) ∙ ap (λ (l : List ℕ). l ++ (digit (n % 10) ∷ [])) (two_digits (n / 10) (omega arith) (omega arith))
    ∙ ap (λ (d : ℕ). digit d ∷ digit (n / 10 % 10) ∷ digit (n % 10) ∷ []) (div-div-eq-div-mul n 10 10)

pub same_decimal : (n : ℕ) → n < 1000 → decimal n ≡ D.decimal n
unfolding decimal
same_decimal n h = by (ltb n 10) refl (ltb n 100) refl
  where
    by : (a : Bool) → ltb n 10 ≡ a → (b : Bool) → ltb n 100 ≡ b → decimal n ≡ D.decimal n
    by true e b f = rw (lt-ltb n 10 (ltb-true n 10 e)) (sym (one_digit n (ltb-true n 10 e)))
    by false e true f = rw (le-ltb n 10 (ltb-false n 10 e), lt-ltb n 100 (ltb-true n 100 f)) (sym (two_digits n (ltb-false n 10 e) (ltb-true n 100 f)))
    by false e false f = rw (le-ltb n 10 (ltb-false n 10 e), le-ltb n 100 (ltb-false n 100 f)) (sym (three_digits n (ltb-false n 100 f) h))

pub line_reads_back : (n : ℕ) → n < 1000 → number_in (decimal n) ≡ n
line_reads_back n h = ap number_in (same_decimal n h) ∙ reads_back n
