-- Placing keeps the lengths of the set's buffers, whatever they hold; so 1, 2 and 3 are the same before and after a list. Assumes nothing.
use mathlib.Core.Path.{◌≡◌, refl, ◌∙◌}
use mathlib.Core.Bool.{Bool, true, false, cond}
use mathlib.Core.List.{List, [], ◌∷◌}
use Prim.Native.Nat.{ℕ, ◌<◌}
use native.Mathlib.Omega.{arith}
use lib.Ieee.{Float}
use lib.ListN.{length}
use Rattle.answer.specs.Given.{Given, answered, refused}
use Rattle.arithmetic.specs.Arith.{Arith}
use Rattle.coordinates.specs.declared.lonlat.LonLat.{LonLat}
use Rattle.set.specs.Set.{Set, check_set}
use Rattle.set.specs.Sizes.{FACE_SLOTS, FACE_WIDTH, FACE_STORE, SPHERE_WIDTH}
use Rattle.set.proofs.Lengths.{call_passed}
use Rattle.stores.specs.Slots.{face_slot, source_slot}
use Rattle.stores.specs.Used.{face_written, faces_written, sphere_written, used_written, has_slots, written_if_there}
use Rattle.stores.specs.declared.used.Used.{Used}
use Rattle.stores.proofs.Written.{written_length}
use Rattle.stores.proofs.Within.{face_below, source_below, sphere_below, has_slots_lem}
use Rattle.dodecahedron.specs.Work.{used_of, set_used}
use Rattle.dodecahedron.specs.declared.work.Work.{Work}
use Rattle.dodecahedron.specs.Calls.{place_given, place_on}
use Rattle.dodecahedron.specs.declared.place.Place.{Place}
use Rattle.dodecahedron.proofs.Ended.{place_there}
use Rattle.place_list.specs.Lists.{placed_one, placed_in_turn}

pub record SameLengths (t s : Set) : Type 0 where
  pub frame : length t.frame ≡ length s.frame
  pub faces : length t.faces ≡ length s.faces
  pub spheres : length t.spheres ≡ length s.spheres

unchanged : (s : Set) → SameLengths s s
unchanged s = record { frame = refl; faces = refl; spheres = refl }

then_same : {u t s : Set} → SameLengths u t → SameLengths t s → SameLengths u s
then_same a b = record { frame = a.frame ∙ b.frame; faces = a.faces ∙ b.faces; spheres = a.spheres ∙ b.spheres }

module _ (A : Arith) where
  face_length : (xs : List Float) (k : ℕ) → length xs ≡ FACE_STORE → k < FACE_SLOTS → length (face_written A xs k) ≡ length xs
  unfolding face_written
  face_length xs k long below = written_length FACE_WIDTH xs k _ refl (omega arith)

  faces_length : (xs : List Float) (i : ℕ) (r : Bool) → length xs ≡ FACE_STORE → i < 10 → length (faces_written A xs i r) ≡ length xs
  faces_length xs i false long h = face_length xs (face_slot i false) long (face_below i false h)
  faces_length xs i true long h =
      let first = face_length xs (face_slot i true) long (face_below i true h) in
      face_length (face_written A xs (face_slot i true)) (source_slot i true) (first ∙ long) (source_below i true h) ∙ first

  module _ (s : Set) (u : Used) where
    there_lengths : has_slots s u ≡ true → SameLengths (used_written A s u) s
    unfolding sphere_written
    there_lengths has =
        let slots = has_slots_lem s u has in
        let fits = call_passed s u.origin slots.0 in
        let below = sphere_below u.origin u.index u.reflected fits.1 slots.1 in
        let long = fits.0.spheres in
        record {
          frame = refl;
          faces = faces_length s.faces u.index u.reflected fits.0.faces slots.1;
          spheres = written_length SPHERE_WIDTH s.spheres _ _ refl (omega (arith, below, long));
        }

    written_lengths : SameLengths (written_if_there A s u) s
    unfolding written_if_there
    written_lengths = by_slots (has_slots s u) refl
      where
        by_slots : (b : Bool) → has_slots s u ≡ b → SameLengths (cond b (used_written A s u) s) s
        by_slots true e = there_lengths e
        by_slots false e = unchanged s

  module _ (table : List Float) where
    place_lengths : (s : Set) (p : LonLat) → SameLengths (place_on A table s p).set s
    place_lengths s p = by_answer (place_given A table s p) refl
      where
        by_answer : (g : Given (Work Place)) → place_given A table s p ≡ g → SameLengths (set_used A s (used_of g)) s
        by_answer (refused n) e = unchanged s
        by_answer (answered w) e = rw (← place_there A table s p w e) (written_lengths s w.used)

    in_turn_lengths : (s : Set) (ps : List LonLat) → SameLengths (placed_in_turn A table s ps).set s
    unfolding placed_one
    in_turn_lengths s [] = unchanged s
    in_turn_lengths s (p ∷ ps) = then_same (in_turn_lengths (place_on A table s p).set ps) (place_lengths s p)

    -- 1, 2, 3 once the positions are placed
    pub in_turn_check : (s : Set) (ps : List LonLat) → check_set (placed_in_turn A table s ps).set ≡ check_set s
    unfolding check_set
    in_turn_check s ps =
        let same = in_turn_lengths s ps in
        rw (same.frame, same.faces, same.spheres)
