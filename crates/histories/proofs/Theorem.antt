-- Demand 3: for every table and all three buffers on which open answers, whatever they hold, and every list of calls from there. The idea: what is told
-- along the list (`Told`) is what the set holds, call by call (`Steps`), and the same as what a reader looks for in the list (`UsedLast`).
-- Assumes nothing.
use mathlib.Core.Path.{◌≡◌, refl, sym, ap, ap₂, ◌∙◌}
use mathlib.Core.Logic.{◌↔◌}
use mathlib.Core.Bool.{Bool, true, false}
use mathlib.Core.List.{List, ◌∷◌}
use Prim.Native.Nat.{ℕ, ◌+◌, ◌*◌, ◌≤◌, ◌<◌}
use native.Mathlib.Omega.{arith}
use lib.ListN.{length}
use lib.Ieee.{Float}
use Rattle.answer.specs.Given.{Given, answered, refused, passed}
use Rattle.arithmetic.specs.Arith.{ieee}
use Rattle.arithmetic.specs.Numbers.{1·0}
use Rattle.coordinates.specs.Vector.{cross}
use Rattle.coordinates.specs.declared.coords.SphericalTriangle.{SphericalTriangle}
use Rattle.set.specs.Sizes.{FACE_SLOTS, FACE_WIDTH, SPHERE_SLOTS, SPHERE_WIDTH}
use Rattle.set.specs.Set.{Set}
use Rattle.set.specs.Open.{open_given}
use Rattle.stores.specs.Slots.{filled, sphere_run}
use Rattle.histories.specs.Lists.{standing, Call}
use Rattle.histories.specs.Defined.{slot_at, sphere_defined}
use Rattle.histories.specs.EveryList.{opened, left, last_open, Demand3}
use Rattle.histories.specs.Results.{ResultsAlone}
use Rattle.stores.proofs.ReadBack.{length_run}
use Rattle.histories.proofs.Told.{Since, newly, since_open, frame_opened, table_opened}
use Rattle.histories.proofs.Stores.{slot_of, slot_filled}
use Rattle.histories.proofs.Taken.{Good, fresh, fresh_good, face_coordinates, run_of, sphere_coordinates}
use Rattle.histories.proofs.PlaceLists.{in_turn_each, same_answers}
use Rattle.histories.proofs.Steps.{run_good}
use Rattle.histories.proofs.Outside.{untouched}
use Rattle.histories.proofs.UsedLast.{face_used_last, sphere_used_last}

-- a slot, where it is known whether it has been used
slot_known : (w : ℕ) (xs r : List Float) (k : ℕ) (b c : Bool) → b ≡ c → slot_at w xs k ≡ slot_of b w r → slot_at w xs k ≡ slot_of c w r
slot_known w xs r k b c e h = h ∙ ap (λ (d : Bool). slot_of d w r) e

-- a slot that begins with a mark, and not with nothing behind it, holds a triangle: one that is defined
triangle_in : (xs : List Float) (k : ℕ) (g : Given SphericalTriangle) → k * SPHERE_WIDTH + SPHERE_WIDTH ≤ length xs
    → slot_at SPHERE_WIDTH xs k ≡ 1·0 ∷ run_of g
    → (t : SphericalTriangle) × (g ≡ answered t) × (slot_at SPHERE_WIDTH xs k ≡ 1·0 ∷ sphere_run t (cross ieee t.b t.c))
triangle_in xs k (answered t) l e = (t, refl, e)
triangle_in xs k (refused n) l e = absurd (omega (arith, ap length e, length_run xs (k * SPHERE_WIDTH) SPHERE_WIDTH l))

-- a newly opened set is as `fresh`
opened_good : (t : List Float) (b : Set) → open_given ieee t b ≡ passed → Good (opened t b).table (newly (opened t b)) (opened t b).set
opened_good t b e = rw e (fresh_good t)

-- what holds after a list, by what is told along it
module _ (t : List Float) (b : Set) (ready : open_given ieee t b ≡ passed) (cs : List Call) where
  abbrev told : Since
  told = since_open t b cs

  -- the table that calls take, and the set
  abbrev table : List Float
  table = (left t b cs).table

  abbrev now : Set
  now = (left t b cs).set

  pub good_left : Good table told now
  good_left = run_good cs (newly (opened t b)) (opened t b) (opened_good t b ready)

  pub face_mark : (k : ℕ) → k < FACE_SLOTS → filled now.faces (k * FACE_WIDTH) ≡ told.faces k
  face_mark k h = slot_filled FACE_WIDTH now.faces k (omega arith) (told.faces k) (face_coordinates k) (good_left.face k h)

  pub sphere_mark : (k : ℕ) → k < SPHERE_SLOTS → filled now.spheres (k * SPHERE_WIDTH) ≡ told.spheres k
  sphere_mark k h =
      slot_filled SPHERE_WIDTH now.spheres k (omega arith) (told.spheres k) (sphere_coordinates table told.frame k) (good_left.sphere k h)

  -- a slot, where it is known whether it has been used
  pub face_slot : (k : ℕ) (u : Bool) → k < FACE_SLOTS → told.faces k ≡ u → slot_at FACE_WIDTH now.faces k ≡ slot_of u FACE_WIDTH (face_coordinates k)
  face_slot k u h e = slot_known FACE_WIDTH now.faces (face_coordinates k) k (told.faces k) u e (good_left.face k h)

  sphere_slot : (k : ℕ) (u : Bool) → k < SPHERE_SLOTS → told.spheres k ≡ u
      → slot_at SPHERE_WIDTH now.spheres k ≡ slot_of u SPHERE_WIDTH (sphere_coordinates table told.frame k)
  sphere_slot k u h e = slot_known SPHERE_WIDTH now.spheres (sphere_coordinates table told.frame k) k (told.spheres k) u e (good_left.sphere k h)

  pub sphere_triangle : (k : ℕ) → k < SPHERE_SLOTS → told.spheres k ≡ true
      → (d : SphericalTriangle) × (sphere_defined (last_open t b cs).table (last_open t b cs).set.frame k ≡ answered d)
      × (slot_at SPHERE_WIDTH now.spheres k ≡ 1·0 ∷ sphere_run d (cross ieee d.b d.c))
  sphere_triangle k h e =
      let found = triangle_in now.spheres k _ (omega (arith, good_left.sphere_long)) (sphere_slot k true h e) in
      let last = ap₂ (λ (origins frame : List Float). sphere_defined origins frame k) (sym (table_opened t b cs)) (sym (frame_opened t b cs)) in
      (found.0, last ∙ found.1, found.2)

-- a set newly opened with the table that calls take
fresh_answers : (t : List Float) (b : Set) (cs : List Call) (n : Set) → let table = (left t b cs).table in open_given ieee table n ≡ passed
    → Good table (newly (standing table (fresh table))) (opened table n).set
fresh_answers t b cs n h = rw h (fresh_good (left t b cs).table)

-- a slot that has not been used is told so
unused : {P : Type 0} (u : Bool) → (u ≡ true) ↔ P → (P → ⊥) → u ≡ false
unused true e not = absurd (not (e.0 refl))
unused false e not = refl

pub every_list : Demand3
every_list t b ready cs =
    let good = good_left t b ready cs in
    let faces = face_used_last t b cs in
    let spheres = sphere_used_last t b cs in
    let used-face = face_mark t b ready cs in
    let used-sphere = sphere_mark t b ready cs in
    record {
      table = table_opened t b cs;
      answers = λ n h. same_answers (left t b cs).table _ _ (left t b cs).set _ good (fresh_answers t b cs n h);
      face_filled = λ k h. (λ e. (faces k).0 (sym (used-face k h) ∙ e), λ u. used-face k h ∙ (faces k).1 u);
      sphere_filled = λ k h. (λ e. (spheres k).0 (sym (used-sphere k h) ∙ e), λ u. used-sphere k h ∙ (spheres k).1 u);
      face_holds = λ k h u. face_slot t b ready cs k true h ((faces k).1 u);
      sphere_holds = λ k h u. sphere_triangle t b ready cs k h ((spheres k).1 u);
      face_else = λ k h not. face_slot t b ready cs k false h (unused _ (faces k) not);
      sphere_else = λ k h not. sphere_slot t b ready cs k false h (unused _ (spheres k) not);
      face_length = good.face_long;
      sphere_length = good.sphere_long;
      frame = good.frame ∙ frame_opened t b cs;
      outside = untouched;
      shown = λ s kind k. (refl, refl);
    }

pub results_alone : ResultsAlone
results_alone t b ready cs n h ps = in_turn_each (left t b cs).table _ _ (fresh_answers t b cs n h) ps _ _ (good_left t b ready cs)
