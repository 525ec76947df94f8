-- The digits 010 at the end of t, in units of r, changed to 001: t - r by two digits. Assumes nothing.
use Rattle.std.proofs.Common.{◌≡◌, ℕ, ◌+◌, ◌-◌, ◌*◌, ◌^◌, sym, ap, ◌∙◌, ap₂, add-zero, arith, pow_pos}
use lib.Bits.{bit_xor, xor_block, xor_zero_r}
use Rattle.square_root.specs.Digits.{Marked}

in_units : (a b i : ℕ) → bit_xor (a * 2 ^ i) (b * 2 ^ i) ≡ bit_xor a b * 2 ^ i
in_units a b i =
    sym (ap₂ bit_xor (add-zero (a * 2 ^ i)) (add-zero (b * 2 ^ i)))
    ∙ xor_block i a b 0 0 (pow_pos i) (pow_pos i)
    ∙ add-zero (bit_xor a b * 2 ^ i)

last_digits : (a : ℕ) → bit_xor (8 * a + 2) 3 ≡ 8 * a + 1
last_digits a =
    let blocks : 8 * a + 2 ≡ 2 * a * 2 ^ 2 + 2 = omega arith in
    let kept : bit_xor (2 * a) 0 ≡ 2 * a = xor_zero_r (2 * a) in
    ap (λ (x : ℕ). bit_xor x 3) blocks ∙ xor_block 2 (2 * a) 0 2 3 (omega arith) (omega arith) ∙ ap (λ (x : ℕ). x * 2 ^ 2 + 1) kept ∙ omega arith

pub changed : (t r : ℕ) → Marked t r → bit_xor t (3 * r) ≡ t - r
changed t r m =
    let a = m.a in
    let i = m.i in
    let difference : (8 * a + 1) * r ≡ t - r = omega (arith, m.t_is) in
    ap₂ bit_xor (m.t_is ∙ ap (λ (x : ℕ). (8 * a + 2) * x) m.r_is) (ap (λ (x : ℕ). 3 * x) m.r_is)
    ∙ in_units (8 * a + 2) 3 i
    ∙ ap (λ (x : ℕ). x * 2 ^ i) (last_digits a)
    ∙ ap (λ (x : ℕ). (8 * a + 1) * x) (sym m.r_is)
    ∙ difference
