-- Eight bytes as the library reads and writes them, doubles as bytes and back, and a mark of five bytes. Assumes nothing.
use mathlib.Core.Path.{◌≡◌, refl, sym, ap, ◌∙◌}
use mathlib.Core.Bool.{false, ◌&&◌, and-true}
use mathlib.Core.Logic.{⊎_elim}
use mathlib.Core.List.{List, [], ◌∷◌, ◌++◌, append_assoc}
use Prim.Native.Nat.{ℕ, zero, suc, ◌+◌, ◌-◌, ◌/◌, ◌%◌, ◌^◌, ◌<◌, ◌≤◌}
use native.Mathlib.Omega.{arith}
use lib.Dec.{T, lit≤, eqb}
use lib.ListN.{length, get_or, take, drop}
use lib.Seq.{drop-drop}
use lib.Ieee.{Float, binary64, of_bits, to_bits, fits, is_nan}
use lib.Ieee.Bits.{of_bits-to_bits, to_bits-lt, to_bits-of_bits}
use borrow.Author.Tests.{eq-eqb, ne_eqb}
use borrow.Rule.Slice.PartMut.{put_mid}
use Rattle.std.specs.Int.{w64, from_be_bytes, to_be_bytes}
use Rattle.std.specs.List.{All, starts_with}
use Rattle.std.proofs.lemmas.Bool.Decides.{eqb_tells}
use Rattle.std.proofs.lemmas.Nat.{from_be_bytes-to_be_bytes_8, be_bytes_8}
use Rattle.answer.specs.BigEndian.{big_endian, bytes_of, double_in, double_bytes}

-- ---- eight bytes

pub eight_read : (bs : List ℕ) → length bs ≡ 8 → from_be_bytes w64 bs ≡ big_endian bs
unfolding big_endian
eight_read [] l = absurd (omega arith)
eight_read (a ∷ []) l = absurd (omega arith)
eight_read (a ∷ b ∷ []) l = absurd (omega arith)
eight_read (a ∷ b ∷ c ∷ []) l = absurd (omega arith)
eight_read (a ∷ b ∷ c ∷ d ∷ []) l = absurd (omega arith)
eight_read (a ∷ b ∷ c ∷ d ∷ e ∷ []) l = absurd (omega arith)
eight_read (a ∷ b ∷ c ∷ d ∷ e ∷ f ∷ []) l = absurd (omega arith)
eight_read (a ∷ b ∷ c ∷ d ∷ e ∷ f ∷ g ∷ []) l = absurd (omega arith)
eight_read (a ∷ b ∷ c ∷ d ∷ e ∷ f ∷ g ∷ h ∷ []) l = omega arith
eight_read (a ∷ b ∷ c ∷ d ∷ e ∷ f ∷ g ∷ h ∷ x ∷ bs) l = absurd (omega arith)

pub eight_written : (n : ℕ) → to_be_bytes w64 n ≡ bytes_of 8 n
unfolding bytes_of
eight_written n = let e : n ≡ n / 1 = omega arith in
    ap (λ (low : ℕ). n / 256 ^ 7 % 256 ∷ n / 256 ^ 6 % 256 ∷ n / 256 ^ 5 % 256 ∷ n / 256 ^ 4 % 256 ∷ n / 256 ^ 3 % 256 ∷ n / 256 ^ 2 % 256 ∷
    n / 256 % 256 ∷ low % 256 ∷ []) e

-- n bytes from a place on exchanged for others
pub put_part : (xs ys : List ℕ) (at n : ℕ) → put_mid at (at + n - at) xs ys ≡ take at xs ++ ys ++ drop (at + n) xs
put_part xs ys at n = let e : at + n - at ≡ n = omega arith in rw (e, drop-drop n at xs, append_assoc)

-- ---- doubles

pub length_double : (x : Float) → length (double_bytes x) ≡ 8
unfolding double_bytes bytes_of
length_double x = refl

pub double_back : (x : Float) → T (fits binary64 x) → double_in (double_bytes x) ≡ x
unfolding double_in double_bytes
double_back x h =
    let n = to_bits binary64 x in
    let bytes = eight_written n in
    let read = sym (eight_read (to_be_bytes w64 n) refl) ∙ from_be_bytes-to_be_bytes_8 n (to_bits-lt binary64 x h) in
    ap (of_bits binary64) (ap big_endian (sym bytes) ∙ read) ∙ of_bits-to_bits binary64 x h

-- every one is below 256
abbrev pub Bytes : List ℕ → Type 0
Bytes bs = All (λ b. b < 256) bs

below : (bs : List ℕ) → Bytes bs → (i : ℕ) → get_or bs i 0 < 256
below [] r i = lit≤ tt
below (b ∷ bs) r zero = r 0 0 (omega arith)
below (b ∷ bs) r (suc i) = below bs (λ k d h. r (suc k) d (omega arith)) i

pub bytes_back : (bs : List ℕ) → Bytes bs → length bs ≡ 8 → is_nan (double_in bs) ≡ false → double_bytes (double_in bs) ≡ bs
unfolding double_in double_bytes
bytes_back bs r e n =
    let read = eight_read bs e in
    let b = below bs r in
    let l : big_endian bs < 2 ^ 64 = omega (arith, b 0, b 1, b 2, b 3, b 4, b 5, b 6, b 7, read) in
    let written = be_bytes_8 bs (big_endian bs) e b (sym read) in
    ap (bytes_of 8) (to_bits-of_bits binary64 (big_endian bs) l (rw n tt)) ∙ sym (eight_written (big_endian bs)) ∙ written

-- ---- five bytes at the front

eqb_sym : (a b : ℕ) → eqb a b ≡ eqb b a
eqb_sym a b = ⊎_elim (λ p. p.0 ∙ sym (eq-eqb b a (sym p.1))) (λ p. p.0 ∙ sym (ne_eqb b a (λ e. p.1 (sym e)))) (eqb_tells a b)

pub marked : (bs : List ℕ) (k l m n o : ℕ) → 5 ≤ length bs
    → starts_with eqb bs (k ∷ l ∷ m ∷ n ∷ o ∷ [])
    ≡ (eqb (get_or bs 0 0) k && (eqb (get_or bs 1 0) l && (eqb (get_or bs 2 0) m && (eqb (get_or bs 3 0) n && eqb (get_or bs 4 0) o))))
marked [] k l m n o h = absurd (omega arith)
marked (a ∷ []) k l m n o h = absurd (omega arith)
marked (a ∷ b ∷ []) k l m n o h = absurd (omega arith)
marked (a ∷ b ∷ c ∷ []) k l m n o h = absurd (omega arith)
marked (a ∷ b ∷ c ∷ d ∷ []) k l m n o h = absurd (omega arith)
marked (a ∷ b ∷ c ∷ d ∷ e ∷ bs) k l m n o h = rw (eqb_sym k a, eqb_sym l b, eqb_sym m c, eqb_sym n d, eqb_sym o e, and-true (eqb e o))
