-- "No call but open writes to the set outside the slots it uses": whatever the buffers hold. Assumes nothing.
use mathlib.Core.Path.{◌≡◌, refl, ◌∙◌}
use mathlib.Core.Bool.{Bool, true, false, ◌||◌, true≢false}
use mathlib.Core.List.{List, [], ◌∷◌}
use Prim.Native.Nat.{ℕ, ◌+◌, ◌/◌, ◌<◌}
use native.Mathlib.Omega.{arith}
use lib.ListN.{length, get_or}
use lib.Ieee.{Float, nan}
use borrow.Author.Tests.{eqb-false}
use Rattle.std.proofs.lemmas.Bool.{or_parts}
use Rattle.answer.specs.Given.{answered, refused}
use Rattle.arithmetic.specs.Arith.{ieee}
use Rattle.set.specs.Sizes.{FACE_SLOTS, FACE_WIDTH, FACE_STORE, SPHERE_WIDTH}
use Rattle.stores.specs.Slots.{sphere_run}
use Rattle.stores.specs.Slots.{sphere_slot}
use Rattle.stores.specs.Used.{face_written, faces_written, sphere_written, used_written, all_written}
use Rattle.stores.specs.declared.used.Used.{Used}
use Rattle.set.specs.Set.{Set}
use Rattle.histories.specs.Lists.{Standing, Call, opens, forwards, inverses, places, unplaces, lists, regions, shows, asks, Effect, writes, uses, reads, effect, steps}
use Rattle.histories.specs.Since.{faces_at, faces_in, spheres_at, spheres_in}
use Rattle.histories.specs.EveryList.{Untouched}
use Rattle.stores.proofs.ReadBack.{other_place}
use Rattle.stores.proofs.Written.{written_length, written_outside}
use Rattle.stores.proofs.Within.{sphere_below}
use Rattle.histories.proofs.Taken.{face_coordinates}
use Rattle.histories.proofs.Uses.{UsedOn, UsedAll, EffectOn, effect_fits}

-- ---- the face store

face_length : (xs : List Float) → length xs ≡ FACE_STORE → (k : ℕ) → k < FACE_SLOTS → length (face_written ieee xs k) ≡ length xs
unfolding face_written
face_length xs l k h = written_length FACE_WIDTH xs k (face_coordinates k) refl (omega arith)

face_outside : (xs : List Float) → length xs ≡ FACE_STORE → (k : ℕ) → k < FACE_SLOTS → (i : ℕ) → (i / FACE_WIDTH ≡ k → ⊥)
    → get_or (face_written ieee xs k) i nan ≡ get_or xs i nan
unfolding face_written
face_outside xs l k h i ne =
    written_outside FACE_WIDTH xs k (face_coordinates k) refl (omega arith) i (other_place FACE_WIDTH k i (omega arith) ne)

module _ (xs : List Float) (l : length xs ≡ FACE_STORE) (i : ℕ) (h : i < 10) where
  faces_length : (r : Bool) → length (faces_written ieee xs i r) ≡ length xs
  faces_length false = face_length xs l i (omega arith)
  faces_length true =
      let a = face_length xs l (i + 10) (omega arith) in
      face_length (face_written ieee xs (i + 10)) (a ∙ l) (i + 20) (omega arith) ∙ a

  faces_outside : (r : Bool) (p : ℕ) → faces_at i r (p / FACE_WIDTH) ≡ false → get_or (faces_written ieee xs i r) p nan ≡ get_or xs p nan
  faces_outside false p e = face_outside xs l i (omega arith) p (eqb-false (p / FACE_WIDTH) i e)
  faces_outside true p e =
      let n = or_parts _ _ e in
      let a = face_length xs l (i + 10) (omega arith) in
      face_outside (face_written ieee xs (i + 10)) (a ∙ l) (i + 20) (omega arith) p (eqb-false (p / FACE_WIDTH) (i + 20) n.1)
      ∙ face_outside xs l (i + 10) (omega arith) p (eqb-false (p / FACE_WIDTH) (i + 10) n.0)

-- ---- a call that is not open

abbrev is_opens : Effect → Bool
is_opens (writes table g) = true
is_opens (uses g) = false
is_opens reads = false

not_open : (s : Standing) (c : Call) → ((table : List Float) → c ≡ opens table → ⊥) → is_opens (effect s c) ≡ false
not_open s (opens table) other = absurd (other table refl)
not_open s (forwards p o) other = refl
not_open s (inverses f o) other = refl
not_open s (places p) other = refl
not_open s (unplaces f o) other = refl
not_open s (lists ps results) other = refl
not_open s (regions ps points) other = refl
not_open s (steps b) other = refl
not_open s (shows kind k) other = refl
not_open s (asks kind k) other = refl

-- a list that keeps its length, and its elements outside some slots of a width
record Kept (width : ℕ) (used : ℕ → Bool) (before after : List Float) : Type 0 where
  pub long : length after ≡ length before
  pub outside : (i : ℕ) → used (i / width) ≡ false → get_or after i nan ≡ get_or before i nan

-- what is kept twice is kept, of the slots of both
kept_twice : (width : ℕ) (used more : ℕ → Bool) (xs ys zs : List Float) → Kept width used xs ys → Kept width more ys zs
    → Kept width (λ k. used k || more k) xs zs
kept_twice width used more xs ys zs first second =
    record {
      long = second.long ∙ first.long;
      outside = λ i e.
          let none = or_parts (used (i / width)) (more (i / width)) e in
          second.outside i none.1 ∙ first.outside i none.0;
    }

module _ (table : List Float) where
  faces_kept : (us : List Used) (s : Set) → UsedAll table s us → Kept FACE_WIDTH (faces_in us) s.faces (all_written ieee s us).faces
  faces_kept [] s on = record { long = refl; outside = λ i e. refl }
  faces_kept (u ∷ us) s on =
      kept_twice FACE_WIDTH (faces_at u.index u.reflected) (faces_in us) s.faces (faces_written ieee s.faces u.index u.reflected) _
      (record {
        long = faces_length s.faces on.0.fits.faces u.index on.0.index u.reflected;
        outside = faces_outside s.faces on.0.fits.faces u.index on.0.index u.reflected;
      })
      (faces_kept us (used_written ieee s u) on.1)

  sphere_kept : (s : Set) (u : Used) → UsedOn table s u
      → Kept SPHERE_WIDTH (spheres_at u.origin u.index u.reflected) s.spheres (sphere_written s.spheres u)
  unfolding sphere_written
  sphere_kept s u on =
      let k = sphere_slot u.origin u.index u.reflected in
      let run = sphere_run u.triangle u.bxc in
      let below = sphere_below u.origin u.index u.reflected on.origin on.index in
      let long = on.fits.spheres in
      record {
        long = written_length SPHERE_WIDTH s.spheres k run refl (omega (arith, below, long));
        outside = λ i e.
            let other = other_place SPHERE_WIDTH k i (omega arith) (eqb-false (i / SPHERE_WIDTH) k e) in
            written_outside SPHERE_WIDTH s.spheres k run refl (omega (arith, below, long)) i other;
      }

  spheres_kept : (us : List Used) (s : Set) → UsedAll table s us → Kept SPHERE_WIDTH (spheres_in us) s.spheres (all_written ieee s us).spheres
  spheres_kept [] s on = record { long = refl; outside = λ i e. refl }
  spheres_kept (u ∷ us) s on =
      kept_twice SPHERE_WIDTH (spheres_at u.origin u.index u.reflected) (spheres_in us) s.spheres (sphere_written s.spheres u) _
      (sphere_kept s u on.0)
      (spheres_kept us (used_written ieee s u) on.1)

pub frame_kept : (us : List Used) (s : Set) → (all_written ieee s us).frame ≡ s.frame
frame_kept [] s = refl
frame_kept (u ∷ us) s = frame_kept us (used_written ieee s u)

by_effect : (s : Standing) (e : Effect) → EffectOn s e → is_opens e ≡ false → Untouched s e
by_effect s (writes table g) fits is = absurd (true≢false is)
by_effect s (uses (refused n)) fits is =
    record { table = refl; frame = refl; face_length = refl; face = λ i e. refl; sphere_length = refl; sphere = λ i e. refl }
by_effect s (uses (answered us)) fits is =
    let faces = faces_kept s.table us s.set (fits us refl) in
    let spheres = spheres_kept s.table us s.set (fits us refl) in
    record {
      table = refl;
      frame = frame_kept us s.set;
      face_length = faces.long;
      face = faces.outside;
      sphere_length = spheres.long;
      sphere = spheres.outside;
    }
by_effect s reads fits is =
    record { table = refl; frame = refl; face_length = refl; face = λ i e. refl; sphere_length = refl; sphere = λ i e. refl }

pub untouched : (s : Standing) (c : Call) → ((table : List Float) → c ≡ opens table → ⊥) → Untouched s (effect s c)
untouched s c other = by_effect s (effect s c) (effect_fits s c) (not_open s c other)
