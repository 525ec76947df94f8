-- One call keeps what holds of a set, by what it does to it; and so does every list of calls. Assumes nothing.
use mathlib.Core.Path.{◌≡◌, refl, sym, ap, subst, ◌∙◌}
use mathlib.Core.Bool.{Bool, true, false, ◌||◌, or_assoc, or-false}
use mathlib.Core.List.{List, [], ◌∷◌}
use Prim.Native.Nat.{ℕ, suc, ◌+◌, ◌<◌}
use native.Mathlib.Omega.{arith}
use lib.Dec.{eqb}
use lib.ListN.{length}
use lib.Ieee.{Float}
use Rattle.answer.specs.Given.{answered, refused}
use Rattle.arithmetic.specs.Arith.{ieee}
use Rattle.coordinates.specs.Vector.{cross}
use Rattle.coordinates.specs.declared.coords.Cartesian.{Cartesian}
use Rattle.coordinates.specs.declared.coords.SphericalTriangle.{SphericalTriangle}
use Rattle.set.specs.Sizes.{FACE_SLOTS, FACE_WIDTH, FACE_STORE, SPHERE_SLOTS, SPHERE_WIDTH, SPHERE_STORE}
use Rattle.stores.specs.Slots.{sphere_run, slot_written}
use Rattle.stores.specs.Slots.{sphere_slot}
use Rattle.stores.specs.Used.{face_written, faces_written, sphere_written, used_written, all_written}
use Rattle.stores.specs.declared.used.Used.{Used}
use Rattle.set.specs.Set.{Set}
use Rattle.histories.specs.Lists.{Standing, standing, Call, Effect, writes, uses, reads, effect, after, step, run}
use Rattle.histories.specs.Since.{Slots, faces_at, faces_in, spheres_at, spheres_in}
use Rattle.histories.specs.Defined.{sphere_defined, slot_at}
use Rattle.histories.proofs.Stores.{slot_of, Holds, written_long, written_holds}
use Rattle.stores.proofs.Within.{sphere_below}
use Rattle.histories.proofs.Taken.{Good, fresh_good, face_coordinates, run_of, sphere_coordinates, sphere_taken_lem, cross_taken_lem}
use Rattle.histories.proofs.Told.{Since, counted, since}
use Rattle.histories.proofs.Uses.{UsedOn, UsedAll, EffectOn, effect_fits}

-- a face store, of which the slots u have been used
abbrev FaceStore : Slots → List Float → Type 0
FaceStore u xs = (length xs ≡ FACE_STORE) × Holds FACE_WIDTH FACE_SLOTS face_coordinates u xs

face_written_lem : (u : Slots) (xs : List Float) → FaceStore u xs → (k : ℕ) → k < FACE_SLOTS
    → FaceStore (λ j. u j || eqb j k) (face_written ieee xs k)
unfolding face_written
face_written_lem u xs f k h = (
  written_long FACE_WIDTH FACE_SLOTS face_coordinates u xs f.0 f.1 k h refl,
  written_holds FACE_WIDTH FACE_SLOTS face_coordinates u xs f.0 f.1 k h refl,
)

-- the face slots of an answered call
faces_written_lem : (u : Slots) (xs : List Float) → FaceStore u xs → (i : ℕ) (r : Bool) → i < 10
    → FaceStore (λ k. u k || faces_at i r k) (faces_written ieee xs i r)
faces_written_lem u xs f i false h = face_written_lem u xs f i (omega arith)
faces_written_lem u xs f i true h =
    let a = face_written_lem u xs f (i + 10) (omega arith) in
    let b = face_written_lem (λ j. u j || eqb j (i + 10)) (face_written ieee xs (i + 10)) a (i + 20) (omega arith) in
    (b.0, λ k g. rw (← or_assoc (u k) (eqb k (i + 10)) (eqb k (i + 20))) (b.1 k g))

module _ (table : List Float) (w : Since) (s : Set) (good : Good table w s) where
  -- a sphere store, of which the slots u have been used
  abbrev SphereStore : Slots → List Float → Type 0
  SphereStore u xs = (length xs ≡ SPHERE_STORE) × Holds SPHERE_WIDTH SPHERE_SLOTS (sphere_coordinates table w.frame) u xs

  -- the sphere slot of an answered call, which gets the triangle defined for it and b × c
  sphere_written_lem : (k : ℕ) (t : SphericalTriangle) (bxc : Cartesian) → k < SPHERE_SLOTS → sphere_defined table w.frame k ≡ answered t
      → cross ieee t.b t.c ≡ bxc → SphereStore (λ j. w.spheres j || eqb j k) (slot_written SPHERE_WIDTH s.spheres k (sphere_run t bxc))
  sphere_written_lem k t bxc h e crossed =
      let runs = sphere_coordinates table w.frame in
      let r : runs k ≡ sphere_run t bxc = ap run_of e ∙ ap (sphere_run t) crossed in
      let size : suc (length (runs k)) ≡ SPHERE_WIDTH = rw r in (
        rw (← r) (written_long SPHERE_WIDTH SPHERE_SLOTS runs w.spheres s.spheres good.sphere_long good.sphere k h size),
        rw (← r) (written_holds SPHERE_WIDTH SPHERE_SLOTS runs w.spheres s.spheres good.sphere_long good.sphere k h size),
      )

  -- one projection's slots
  pub used_good : (u : Used) → UsedOn table s u → Good table (counted w (uses (answered (u ∷ []))) (standing table s)) (used_written ieee s u)
  unfolding sphere_written
  used_good u on =
      let k = sphere_slot u.origin u.index u.reflected in
      let defined : sphere_defined table w.frame k ≡ answered u.triangle =
      sym (sphere_taken_lem table w s good u.origin u.index u.reflected on.origin on.index) ∙ on.taken in
      let below = sphere_below u.origin u.index u.reflected on.origin on.index in
      let crossed = sym (cross_taken_lem table w s good k u.triangle below defined) ∙ on.crossed in
      let a = faces_written_lem w.faces s.faces (good.face_long, good.face) u.index u.reflected on.index in
      let b = sphere_written_lem k u.triangle u.bxc below defined crossed in
      record {
        rows = good.rows;
        frame = good.frame;
        face_long = a.0;
        sphere_long = b.0;
        face = λ j h. rw (or-false (faces_at u.index u.reflected j)) (a.1 j h);
        sphere = λ j h. rw (or-false (spheres_at u.origin u.index u.reflected j)) (b.1 j h);
      }

-- those of several, one after the other
all_good : (table : List Float) (us : List Used) (w : Since) (s : Set) → Good table w s → UsedAll table s us
    → Good table (counted w (uses (answered us)) (standing table s)) (all_written ieee s us)
all_good table [] w s good on =
    record {
      rows = good.rows;
      frame = good.frame;
      face_long = good.face_long;
      sphere_long = good.sphere_long;
      face = λ k h. rw (or-false (w.faces k)) (good.face k h);
      sphere = λ k h. rw (or-false (w.spheres k)) (good.sphere k h);
    }
all_good table (u ∷ us) w s good on =
    let one = used_good table w s good u on.0 in
    let rest = all_good table us _ (used_written ieee s u) one on.1 in
    let left = all_written ieee s (u ∷ us) in
    let Face : ℕ → Bool → Type 0 = λ k b. slot_at FACE_WIDTH left.faces k ≡ slot_of b FACE_WIDTH (face_coordinates k) in
    let Sphere : ℕ → Bool → Type 0 = λ k b. slot_at SPHERE_WIDTH left.spheres k ≡ slot_of b SPHERE_WIDTH (sphere_coordinates table w.frame k) in
    record {
      rows = rest.rows;
      frame = rest.frame;
      face_long = rest.face_long;
      sphere_long = rest.sphere_long;
      face = λ k h. one_more (w.faces k) (faces_at u.index u.reflected k) (faces_in us k) (Face k) (rest.face k h);
      sphere = λ k h. one_more (w.spheres k) (spheres_at u.origin u.index u.reflected k) (spheres_in us k) (Sphere k) (rest.sphere k h);
    }
  where
    one_more : (a b c : Bool) (P : Bool → Type 0) → P ((a || (b || false)) || c) → P (a || (b || c))
    one_more a b c P p = subst P (rw (or-false b) (or_assoc a b c)) p

-- by what a call does to the set
after_good : (s : Standing) (w : Since) → Good s.table w s.set → (e : Effect) → EffectOn s e
    → Good (after s e).table (counted w e (after s e)) (after s e).set
after_good s w good (writes table (refused n)) fits = good
after_good s w good (writes table (answered u)) fits = fresh_good table
after_good s w good (uses (refused n)) fits = all_good s.table [] w s.set good tt
after_good s w good (uses (answered us)) fits = all_good s.table us w s.set good (fits us refl)
after_good s w good reads fits = good

pub run_good : (cs : List Call) (w : Since) (s : Standing) → Good s.table w s.set → Good (run s cs).table (since w s cs) (run s cs).set
run_good [] w s good = good
run_good (c ∷ cs) w s good =
    run_good cs (counted w (effect s c) (step s c)) (step s c) (after_good s w good (effect s c) (effect_fits s c))
