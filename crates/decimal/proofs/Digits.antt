-- The laws of numbers in decimal: the digits read back are the number, and none has a leading zero. Assumes nothing.
use mathlib.Core.Path.{◌≡◌, refl, sym, ap, ◌∙◌}
use mathlib.Core.Bool.{Bool, true, false}
use mathlib.Core.List.{List, [], ◌∷◌, ◌++◌}
use Prim.Native.Nat.{ℕ, zero, suc, ◌+◌, ◌*◌, ◌/◌, ◌%◌, ◌≤◌, ◌<◌}
use native.Mathlib.Omega.{arith}
use native.Mathlib.Nat.{div-add-mod'}
use borrow.Author.Tests.{ne_eqb, ltb-true, ltb-false}
use lib.Dec.{ltb}
use lib.ListN.{get_or}
use Rattle.decimal.specs.Decimal.{digit, digits_within, decimal, worth, read_on, number_in}

-- a text behind another is read behind its number
pub read_append : (a : ℕ) (s t : List ℕ) → read_on a (s ++ t) ≡ read_on (read_on a s) t
unfolding read_on
read_append a [] t = refl
read_append a (c ∷ s) t = read_append (a * 10 + worth c) s t

-- one digit more, behind a text that says n / 10
pub read_digit : (n c : ℕ) (text : List ℕ) → number_in text ≡ n / 10 → worth c ≡ n % 10 → number_in (text ++ (c ∷ [])) ≡ n
unfolding read_on
read_digit n c text e d = read_append 0 text (c ∷ []) ∙ ap (λ (a : ℕ). a * 10 + worth c) e ∙ ap (λ (d : ℕ). n / 10 * 10 + d) d ∙ div-add-mod' n 10

worth_digit : (d : ℕ) → worth (digit d) ≡ d
worth_digit d = omega arith

-- the digits of a number that is not 0
pub more : (k n : ℕ) → 0 < n → digits_within (suc k) n ≡ digits_within k (n / 10) ++ (digit (n % 10) ∷ [])
unfolding digits_within
more k n h = rw (ne_eqb n 0 (λ e. omega arith))

-- ---- as many digits as there are, or more: the same ones
pub within : (k j n : ℕ) → n ≤ k → n ≤ j → digits_within k n ≡ digits_within j n
unfolding digits_within
within zero zero n p q = refl
within zero (suc j) n p q = let e : n ≡ 0 = omega arith in rw e
within (suc k) zero n p q = let e : n ≡ 0 = omega arith in rw e
within (suc k) (suc j) zero p q = refl
within (suc k) (suc j) (suc n) p q =
    more k (suc n) (omega arith) ∙ ap (λ (l : List ℕ). l ++ (digit (suc n % 10) ∷ [])) (within k j (suc n / 10) (omega arith) (omega arith))
    ∙ sym (more j (suc n) (omega arith))

-- ---- "a number's digits read back are the number"
reads_within : (k n : ℕ) → n ≤ k → number_in (digits_within k n) ≡ n
unfolding digits_within read_on
reads_within zero n h = omega arith
reads_within (suc k) zero h = refl
reads_within (suc k) (suc n) h =
    ap number_in (more k (suc n) (omega arith))
    ∙ read_digit (suc n) (digit (suc n % 10)) (digits_within k (suc n / 10)) (reads_within k (suc n / 10) (omega arith)) (worth_digit (suc n % 10))

pub reads_back : (n : ℕ) → number_in (decimal n) ≡ n
unfolding decimal
reads_back n =
    read_digit n (digit (n % 10)) (digits_within n (n / 10)) (reads_within n (n / 10) (omega arith)) (worth_digit (n % 10))

-- so no two numbers have the same digits
pub same_digits : (m n : ℕ) → decimal m ≡ decimal n → m ≡ n
same_digits m n e = sym (reads_back m) ∙ ap number_in e ∙ reads_back n

-- ---- one digit alone, and a number by what is left without its last digit
pub one_digit : (n : ℕ) → n < 10 → decimal n ≡ digit n ∷ []
unfolding decimal digits_within
one_digit n h =
    let none : n / 10 ≡ 0 = omega arith in
    let last : n % 10 ≡ n = omega arith in
    ap (λ (l : List ℕ). l ++ (digit (n % 10) ∷ [])) (ap (digits_within n) none ∙ within n 0 0 (omega arith) (omega arith)) ∙ ap (λ (d : ℕ). digit d ∷ []) last

pub more_digits : (n : ℕ) → 10 ≤ n → decimal n ≡ decimal (n / 10) ++ (digit (n % 10) ∷ [])
unfolding decimal
more_digits n h =
    let m = n / 10 in
    ap (λ (l : List ℕ). l ++ (digit (n % 10) ∷ []))
    (within n (suc m) m (omega arith) (omega arith) ∙ more m m (omega arith))

-- ---- what holds of no digits, and of one digit more, holds of every number's
module _ (P : List ℕ → Type 0) (none : P []) (one_more : (s : List ℕ) (d : ℕ) → d < 10 → P s → P (s ++ (digit d ∷ []))) where
  holds_within : (k n : ℕ) → P (digits_within k n)
  unfolding digits_within
  holds_within zero n = none
  holds_within (suc k) zero = none
  holds_within (suc k) (suc n) =
      rw (more k (suc n) (omega arith)) (one_more (digits_within k (suc n / 10)) (suc n % 10) (omega arith) (holds_within k (suc n / 10)))

  pub by_digits : (n : ℕ) → P (decimal n)
  unfolding decimal
  by_digits n = one_more (digits_within n (n / 10)) (n % 10) (omega arith) (holds_within n (n / 10))

-- ---- the first digit is 0 in the decimal of 0 alone
first_digit : (k n : ℕ) → n ≤ k → 0 < n → 48 < get_or (decimal n) 0 0
first_digit zero n h p = absurd (omega arith)
first_digit (suc k) n h p = by (ltb n 10) refl (first_digit k (n / 10) (omega arith))
  where
    by : (b : Bool) → ltb n 10 ≡ b → (0 < n / 10 → 48 < get_or (decimal (n / 10)) 0 0) → 48 < get_or (decimal n) 0 0
    by true e rest = rw (one_digit n (ltb-true n 10 e)) (omega arith)
    by false e rest =
        let t = ltb-false n 10 e in
        rw (more_digits n t) (in_front (decimal (n / 10)) (digit (n % 10)) (rest (omega arith)))
      where
        in_front : (s : List ℕ) (c : ℕ) → 48 < get_or s 0 0 → 48 < get_or (s ++ (c ∷ [])) 0 0
        in_front [] c h = absurd (omega arith)
        in_front (x ∷ s) c h = h

pub no_leading_zero : (n : ℕ) → 0 < n → 48 < get_or (decimal n) 0 0
no_leading_zero n p = first_digit n n (omega arith) p
