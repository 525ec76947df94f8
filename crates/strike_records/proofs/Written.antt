-- Bytes that are written one run behind the other, and how many bytes the parts of a line have. Assumes nothing.
use mathlib.Core.Path.{◌≡◌, refl, sym, ap, ◌∙◌}
use mathlib.Core.Bool.{Bool, true, false, cond}
use mathlib.Core.List.{List, [], ◌∷◌, ◌++◌, append_assoc}
use Prim.Native.Nat.{ℕ, zero, suc, ◌+◌, ◌/◌, ◌%◌, ◌≤◌, ◌<◌}
use native.Mathlib.Numerals.{add-one}
use native.Mathlib.Omega.{arith}
use lib.Dec.{ltb}
use lib.ListN.{length, take, drop, set, length-append}
use lib.Seq.{take_at, drop_at, drop-drop, length-take-le, sets, sets-eq}
use Rattle.stores.specs.Slots.{put}
use Rattle.stores.proofs.Runs.{length_put}
use Rattle.strike_records.specs.Line.{hex, decimal}
use Rattle.strike_records.specs.Writes.{Writes, change}

module _ {A : Type 0} (xs : List A) (at : ℕ) where
  -- a run, and another behind it
  pub put_put : (n : ℕ) (ys zs : List A) → at + length ys ≤ length xs → n ≡ at + length ys
      → put (put xs at ys) n zs ≡ put xs at (ys ++ zs)
  unfolding put
  put_put n ys zs h e =
      let front = take at xs in
      let after = drop at xs in
      let behind = drop (length ys) after in
      let start : length front ≡ at = length-take-le at xs (omega arith) in
      let len : length (front ++ ys) ≡ n = length-append front ys ∙ ap (λ (k : ℕ). k + length ys) start ∙ sym e in
      let both : drop (length zs) behind ≡ drop (length (ys ++ zs)) after =
      drop-drop (length zs) (length ys) after ∙ ap (λ (k : ℕ). drop k after) (sym (length-append ys zs)) in
      rw (← append_assoc front ys behind, take_at (front ++ ys) behind n len, drop_at (front ++ ys) behind n len)
      (append_assoc front ys _ ∙ ap (λ (l : List A). front ++ l) (sym (append_assoc ys zs _) ∙ ap (λ (l : List A). (ys ++ zs) ++ l) both))

  -- a store at each place of a run in turn
  pub put_sets : (ys : List A) → at + length ys ≤ length xs → sets xs at ys ≡ put xs at ys
  unfolding put
  put_sets ys h =
      sets-eq ys xs at h
      ∙ append_assoc (take at xs) ys _
      ∙ ap (λ (l : List A). take at xs ++ (ys ++ l)) (sym (drop-drop (length ys) at xs))

-- ---- one run behind the other

-- nothing
pub writes_none : (xs : List ℕ) → Writes (change xs xs) 0 [] 0
unfolding put
writes_none xs = record { end_is = refl; now_is = refl }

-- a byte
pub writes_byte : (xs : List ℕ) (at v : ℕ) → at < length xs → Writes (change xs (set xs at v)) at (v ∷ []) (at + 1)
writes_byte xs at v h = record { end_is = refl; now_is = put_sets xs at (v ∷ []) (omega arith) }

module _ {xs ys : List ℕ} {at end : ℕ} {line : List ℕ} (w : Writes (change xs ys) at line end) where
  -- a line by another name
  pub writes_as : (l : List ℕ) → line ≡ l → Writes (change xs ys) at l end
  writes_as l e = rw e at w

  -- the buffer keeps its length
  pub writes_length : at + length line ≤ length xs → length ys ≡ length xs
  writes_length h = ap length w.now_is ∙ length_put xs at line h

  -- and a run behind it
  pub writes_more : (more zs : List ℕ) (then : ℕ) → at + length line ≤ length xs → Writes (change ys zs) end more then
      → Writes (change xs zs) at (line ++ more) then
  writes_more more zs then h v =
      record {
        end_is = omega (arith, v.end_is, w.end_is, length-append line more);
        now_is = v.now_is ∙ ap (λ (l : List ℕ). put l end more) w.now_is ∙ put_put xs at end line more h w.end_is;
      }

  pub writes_store : (v then : ℕ) → at + length line < length xs → then ≡ end + 1
      → Writes (change xs (set ys end v)) at (line ++ (v ∷ [])) then
  writes_store v then h e =
      let long = writes_length (omega arith) in
      let byte = writes_byte ys end v (omega (arith, long, w.end_is)) in
      writes_more (v ∷ []) (set ys end v) then (omega arith) (record { end_is = e; now_is = byte.now_is })

-- ---- lengths
pub length_hex : (k n : ℕ) → length (hex k n) ≡ k
unfolding hex
length_hex zero n = refl
length_hex (suc k) n = length-append (hex k (n / 16)) _ ∙ ap (λ (m : ℕ). m + 1) (length_hex k (n / 16)) ∙ add-one k

pub length_decimal : (n : ℕ) → length (decimal n) ≤ 3
unfolding decimal
length_decimal n = by (ltb n 10) (ltb n 100)
  where
    two : List ℕ
    two = (48 + n / 10) ∷ (48 + n % 10) ∷ []

    three : List ℕ
    three = (48 + n / 100) ∷ (48 + n / 10 % 10) ∷ (48 + n % 10) ∷ []

    by : (a b : Bool) → length (cond a ((48 + n) ∷ []) (cond b two three)) ≤ 3
    by true b = omega arith
    by false true = omega arith
    by false false = omega arith
