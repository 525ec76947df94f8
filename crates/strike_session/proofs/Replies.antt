-- Records answered one after the other: the set after them, and one record more. Assumes nothing.
use mathlib.Core.Path.{◌≡◌, refl, ap, ◌∙◌}
use mathlib.Core.List.{List, [], ◌++◌}
use Prim.Native.Nat.{ℕ, zero, suc, ◌+◌, ◌*◌, ◌/◌, ◌≤◌, ◌<◌}
use native.Mathlib.Numerals.{add-one}
use native.Mathlib.Omega.{arith}
use lib.Ieee.{Float}
use lib.ListN.{length, take, drop, get_or}
use Rattle.std.proofs.lemmas.List.{get_or-take, drop-drop}
use Rattle.std.specs.Simd.{first_chunks}
use denote.Triple.Both.{Both}
use Rattle.arithmetic.specs.Arith.{Arith}
use Rattle.set.specs.Set.{Set}
use Rattle.strike_records.specs.Writes.{Bytes, change}
use Rattle.strike_records.proofs.Written.{writes_as, writes_more}
use Rattle.strike_records.specs.Reply.{Reply, reply, record_at, replies}
use Rattle.strike_session.specs.Replies.{Replies}

module _ (A : Arith) (table : List Float) (s : Set) (bytes : List ℕ) where
  abbrev first : ℕ → Reply
  first = replies A table s bytes

  -- one record more, on the set that the first k have left
  one_more : (k : ℕ) (t : Set) (r : List ℕ) → t ≡ (first k).set → r ≡ record_at bytes k
      → ((first k).lines ++ (reply A table t r).lines ≡ (first (k + 1)).lines) × ((reply A table t r).set ≡ (first (k + 1)).set)
  unfolding replies
  one_more k t r p q = rw (add-one k, p, q) (refl, refl)

  -- what stands in a buffer then
  pub replies_more : (k : ℕ) {here next : Set} {r before now then : List ℕ} {written end : ℕ} → r ≡ record_at bytes k → length (first k).lines ≤ length before
      → Replies (change s here) (change before now) 0 written (λ t. replies A table t bytes k)
      → Replies (change here next) (change now then) written end (λ t. reply A table t r)
      → Replies (change s next) (change before then) 0 end (λ t. replies A table t bytes (k + 1))
  replies_more k {here = here} {r = r} {then = then} {end = end} part fits sofar one =
      let more = one_more k here r sofar.left part in
      let lines = writes_more sofar.lines (reply A table here r).lines then end (omega arith) one.lines in
      record { lines = writes_as lines _ more.0; left = one.left ∙ more.1 }

-- record k among the first chunks of ten bytes
chunk_is : (n k : ℕ) (bytes : List ℕ) → k < n → get_or (first_chunks 10 n bytes) k [] ≡ record_at bytes k
chunk_is zero k bytes h = absurd (omega arith)
chunk_is (suc n) zero bytes h = refl
chunk_is (suc n) (suc k) bytes h =
    let next : 10 + k * 10 ≡ suc k * 10 = omega arith in
    chunk_is n k (drop 10 bytes) (omega arith) ∙ ap (take 10) (drop-drop (k * 10) 10 bytes ∙ ap (λ (m : ℕ). drop m bytes) next)

-- the same of the chunks that a loop goes through
pub part_is : (bytes : List ℕ) (count k : ℕ) (chunks : List (List ℕ)) → chunks ≡ first_chunks 10 (length bytes / 10) bytes
    → count * 10 ≤ length bytes → k < count → get_or (take count chunks) k [] ≡ record_at bytes k
part_is bytes count k chunks e fits h = get_or-take count chunks k [] h ∙ rw e (chunk_is (length bytes / 10) k bytes (omega (arith, fits)))

-- a definition by another name
pub replies_as : {set : Both Set Set} {out : Bytes} {at end : ℕ} {f : Set → Reply} (g : Set → Reply) → f set.entry ≡ g set.entry
    → Replies set out at end f → Replies set out at end g
replies_as g e w =
    record {
      lines = writes_as w.lines _ (ap (λ (r : Reply). r.lines) e);
      left = w.left ∙ ap (λ (r : Reply). r.set) e;
    }
