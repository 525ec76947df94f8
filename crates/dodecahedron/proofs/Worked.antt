-- What forward and inverse work out on a set that passes the checks, by the way through the code, and the slots that they use. Assumes nothing.
use mathlib.Core.Path.{◌≡◌, refl, sym, ap, ◌∙◌}
use Prim.Native.Nat.{ℕ}
use Rattle.answer.specs.Given.{Given, answered, refused, passed, bind}
use Rattle.answer.proofs.Given.{bind_answered, bind_of_answered, bind_of_refused}
use Rattle.arithmetic.specs.Arith.{Arith}
use Rattle.coordinates.specs.CoordinateTransforms.{to_polar, to_spherical, to_cartesian}
use Rattle.coordinates.specs.declared.coords.Cartesian.{Cartesian}
use Rattle.coordinates.specs.declared.coords.Face.{Face}
use Rattle.coordinates.specs.declared.polar.Polar.{Polar}
use Rattle.coordinates.specs.declared.spherical.Spherical.{Spherical}
use Rattle.origin.specs.declared.utils.Origin.{Origin}
use Rattle.equal_area.specs.EqualArea.{forward, inverse}
use Rattle.set.specs.Set.{Set}
use Rattle.set.specs.Checks.{check_call}
use Rattle.stores.specs.declared.used.Used.{Used}
use Rattle.stores.specs.Taken.{face_for, used_for, taken_for}
use Rattle.stores.specs.declared.taken.Taken.{Taken}
use Rattle.stores.proofs.TakenWithin.{answered_same, taken_is}
use Rattle.dodecahedron.specs.declared.work.Work.{Work}
use Rattle.dodecahedron.specs.Projection.{frame_constants, polar_about, forward_core, inverse_core}

module _ (A : Arith) (origin : Origin) (s : Set) (o : ℕ) where
  abbrev used : Polar → Given Used
  used polar = used_for A origin s o polar

  abbrev taken : Polar → Given Taken
  taken polar = taken_for A origin s o polar

  abbrev Passed : Type 0
  Passed = check_call s o ≡ passed

  abbrev with_face : Used → Taken
  with_face u = record { used = u; face_triangle = face_for A s u }

  -- what follows from the slots used and their face triangle follows from what is taken
  through : {X : Type 0} (polar : Polar) (f : Taken → Given X) → Passed → bind (used polar) (λ u. f (with_face u)) ≡ bind (taken polar) f
  through {X} polar f p = go (used polar) ∙ ap (λ (g : Given Taken). bind g f) (sym (taken_is A origin s o polar p))
    where
      go : (g : Given Used) → bind g (λ u. f (with_face u)) ≡ bind (bind g λ u. answered (with_face u)) f
      go (answered u) = refl
      go (refused n) = refl

  module _ (p : Spherical) where
    abbrev about : Polar
    about = polar_about A origin (to_cartesian A p)

    abbrev placed : Taken → Work Face
    placed t =
        let constants = frame_constants A s.frame in
        record { answer = forward A constants (to_cartesian A p) t.used.triangle t.used.bxc t.face_triangle; used = t.used }

    forward_through : Passed → forward_core A origin s p o ≡ bind (taken about) λ t. answered (placed t)
    unfolding forward_core
    forward_through h = through about (λ t. answered (placed t)) h

    pub forward_refused : (n : ℕ) → Passed → taken about ≡ refused n → refused n ≡ forward_core A origin s p o
    forward_refused n h e = sym (forward_through h ∙ bind_of_refused (taken about) _ n e)

    pub forward_done : (t : Taken) → Passed → taken about ≡ answered t → answered (placed t) ≡ forward_core A origin s p o
    forward_done t h e = sym (forward_through h ∙ bind_of_answered (taken about) _ t e)

    -- an answer comes with the slots used for the point
    pub forward_used : (w : Work Face) → forward_core A origin s p o ≡ answered w → used about ≡ answered w.used
    unfolding forward_core
    forward_used w e =
        let b = bind_answered (used about) _ w e in
        b.1 ∙ ap (λ (x : Work Face). answered x.used) (answered_same b.2)

  module _ (f : Face) where
    abbrev point : Taken → Given Cartesian
    point t = inverse A (frame_constants A s.frame) f t.face_triangle t.used.triangle

    abbrev at : Used → Cartesian → Work Spherical
    at u v = record { answer = to_spherical A v; used = u }

    abbrev unplaced : Taken → Given (Work Spherical)
    unplaced t = bind (point t) λ v. answered (at t.used v)

    inverse_through : Passed → inverse_core A origin s f o ≡ bind (taken (to_polar A f)) unplaced
    unfolding inverse_core
    inverse_through h = through (to_polar A f) unplaced h

    pub inverse_refused : (n : ℕ) → Passed → taken (to_polar A f) ≡ refused n → refused n ≡ inverse_core A origin s f o
    inverse_refused n h e = sym (inverse_through h ∙ bind_of_refused (taken (to_polar A f)) _ n e)

    inverse_taken : (t : Taken) → Passed → taken (to_polar A f) ≡ answered t → inverse_core A origin s f o ≡ unplaced t
    inverse_taken t h e = inverse_through h ∙ bind_of_answered (taken (to_polar A f)) _ t e

    pub inverse_outside : (t : Taken) (n : ℕ) → Passed → taken (to_polar A f) ≡ answered t → point t ≡ refused n
        → refused n ≡ inverse_core A origin s f o
    inverse_outside t n h e q = sym (inverse_taken t h e ∙ bind_of_refused (point t) _ n q)

    pub inverse_done : (t : Taken) (v : Cartesian) → Passed → taken (to_polar A f) ≡ answered t → point t ≡ answered v
        → answered (at t.used v) ≡ inverse_core A origin s f o
    inverse_done t v h e q = sym (inverse_taken t h e ∙ bind_of_answered (point t) _ v q)

    -- an answer is some point's position, with the slots used
    pub inverse_point : (w : Work Spherical) → inverse_core A origin s f o ≡ answered w
        → (u : Used) × (v : Cartesian) × (used (to_polar A f) ≡ answered u) × (at u v ≡ w)
    unfolding inverse_core
    inverse_point w e =
        let b = bind_answered (used (to_polar A f)) _ w e in
        let d = bind_answered (point (with_face b.0)) _ w b.2 in
        (b.0, d.0, b.1, answered_same d.2)

    pub inverse_used : (w : Work Spherical) → inverse_core A origin s f o ≡ answered w → used (to_polar A f) ≡ answered w.used
    inverse_used w e = let b = inverse_point w e in b.2 ∙ ap (λ (x : Work Spherical). answered x.used) b.3
