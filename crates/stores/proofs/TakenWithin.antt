-- What is taken for a point, by the way through the code, and that the slots used are such as the stores have. Assumes nothing.
use mathlib.Core.Path.{◌≡◌, sym, ap, subst, ◌∙◌}
use mathlib.Core.Bool.{Bool}
use Prim.Native.Nat.{ℕ, ◌<◌}
use Rattle.answer.specs.Given.{Given, answered, refused, passed, bind}
use Rattle.answer.proofs.Given.{bind_answered}
use Rattle.arithmetic.specs.Arith.{Arith}
use Rattle.coordinates.specs.declared.coords.SphericalTriangle.{SphericalTriangle}
use Rattle.coordinates.specs.declared.polar.Polar.{Polar}
use Rattle.origin.specs.declared.utils.Origin.{Origin}
use Rattle.tiling.specs.Index.{triangle_index, should_reflect}
use Rattle.tiling.proofs.Modulo.{index_below_10}
use Rattle.set.specs.Set.{Set}
use Rattle.set.specs.Checks.{check_call}
use Rattle.stores.specs.Slots.{source_slot, sphere_slot}
use Rattle.stores.specs.declared.used.Used.{Used}
use Rattle.stores.specs.Triangles.{sphere_taken, cross_taken}
use Rattle.stores.specs.Taken.{face_for, used_for, taken_for}

pub answered_same : {A : Type 0} {a b : A} → answered a ≡ answered b → a ≡ b
answered_same {a = a} e = ap (λ (g : Given _). elim g [ answered x ↦ x | refused n ↦ a ]) e

module _ (A : Arith) (origin : Origin) (s : Set) (o : ℕ) (polar : Polar) where
  abbrev used : Given Used
  used = used_for A origin s o polar

  -- ---- forwards

  pub set_refused : (n : ℕ) → check_call s o ≡ refused n → taken_for A origin s o polar ≡ refused n
  unfolding taken_for
  set_refused n e = rw e

  pub taken_refused : (n : ℕ) → check_call s o ≡ passed → used ≡ refused n → taken_for A origin s o polar ≡ refused n
  unfolding taken_for
  taken_refused n p e = rw (p, e)

  pub taken_answered : (u : Used) → check_call s o ≡ passed → used ≡ answered u
      → taken_for A origin s o polar ≡ answered (record { used = u; face_triangle = face_for A s u })
  unfolding taken_for
  taken_answered u p e = rw (p, e)

  module _ (i : ℕ) (r : Bool) (ei : i ≡ triangle_index A polar.gamma) (er : r ≡ should_reflect A polar) where
    -- the sphere triangle that is taken
    abbrev triangle : Given SphericalTriangle
    triangle = sphere_taken A s origin (sphere_slot o i r) (source_slot i r)

    abbrev then : SphericalTriangle → Given Used
    then t = answered (record { origin = o; index = i; reflected = r; triangle = t; bxc = cross_taken A s.spheres (sphere_slot o i r) t })

    used_is : used ≡ bind triangle then
    unfolding used_for
    used_is =
        λ k.
        let slot = sphere_slot o (sym ei k) (sym er k) in
        bind (sphere_taken A s origin slot (source_slot (sym ei k) (sym er k))) λ t.
        answered (record { origin = o; index = sym ei k; reflected = sym er k; triangle = t; bxc = cross_taken A s.spheres slot t })

    pub used_refused : (n : ℕ) → triangle ≡ refused n → used ≡ refused n
    used_refused n e = used_is ∙ ap (λ (g : Given SphericalTriangle). bind g then) e

    pub used_answered : (t : SphericalTriangle) → triangle ≡ answered t → used ≡ then t
    used_answered t e = used_is ∙ ap (λ (g : Given SphericalTriangle). bind g then) e

  -- ---- backwards

  -- on a set that passes the checks, what is taken is what is used with its face triangle
  pub taken_is : check_call s o ≡ passed → taken_for A origin s o polar ≡ bind used λ u. answered (record { used = u; face_triangle = face_for A s u })
  unfolding taken_for
  taken_is p = rw p

  pub used_within : (u : Used) → o < 12 → used ≡ answered u → (u.origin < 12) × (u.index < 10)
  unfolding used_for
  used_within u h e =
      let i = triangle_index A polar.gamma in
      let r = should_reflect A polar in
      let b = bind_answered (sphere_taken A s origin (sphere_slot o i r) (source_slot i r)) _ u e in
      subst (λ (v : Used). (v.origin < 12) × (v.index < 10)) (answered_same b.2) (h, index_below_10 A polar.gamma)
