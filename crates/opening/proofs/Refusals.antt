-- What a chain of checks and calls may be refused with, part by part; and the numbers of each check. Assumes nothing.
use mathlib.Core.Path.{◌≡◌, refl, sym, ap, subst}
use mathlib.Core.Bool.{Bool, true, false, not, ◌&&◌, ◌||◌, true≢false}
use mathlib.Core.List.{List, [], ◌∷◌}
use Prim.Native.Nat.{ℕ}
use lib.Dec.{eqb, ltb}
use lib.ListN.{length}
use lib.Ieee.{Float, le, lt, neg}
use borrow.Author.Tests.{eqb-true}
use Rattle.answer.specs.Given.{Given, answered, refused, passed, refuse_if, and_then, bind}
use Rattle.answer.specs.Number.{is_finite, check_number}
use Rattle.answer.proofs.Given.{refused_answers_nothing}
use Rattle.arithmetic.specs.Arith.{Arith}
use Rattle.arithmetic.specs.Numbers.{1·0}
use Rattle.elementary.specs.Sine.{outside, unless_outside, sin_cos_given}
use Rattle.coordinates.specs.CoordinateTransforms.{face_to_barycentric}
use Rattle.coordinates.specs.Conversions.{check_lon_lat, check_spherical, check_face, finite_spherical, finite_lon_lat, finite_face}
use Rattle.coordinates.specs.declared.coords.Barycentric.{Barycentric}
use Rattle.coordinates.specs.declared.coords.Cartesian.{Cartesian}
use Rattle.coordinates.specs.declared.coords.Face.{Face}
use Rattle.coordinates.specs.declared.coords.FaceTriangle.{FaceTriangle}
use Rattle.coordinates.specs.declared.coords.SphericalTriangle.{SphericalTriangle}
use Rattle.coordinates.specs.declared.lonlat.LonLat.{LonLat}
use Rattle.coordinates.specs.declared.spherical.Spherical.{Spherical}
use Rattle.equal_area.specs.EqualArea.{CORNER_MARGIN, is_odd, at_angle, inside, from_barycentric, inverse}
use Rattle.equal_area.specs.declared.equal_area.TriangleConstants.{TriangleConstants}
use Rattle.set.specs.Checks.{check_origin}
use Rattle.dodecahedron.specs.Place.{finite_place}
use Rattle.dodecahedron.specs.Work.{answer_of, used_of, finish}
use Rattle.dodecahedron.specs.declared.work.Work.{Work}
use Rattle.frame_data.specs.Claims.{Answers}
use Rattle.place_list.specs.Lists.{check_counts}
use Rattle.place_list.specs.declared.PlaceResult.{PlaceResult}
use Rattle.region_work.specs.Region.{check_positions, first_origin, all_on, check_origins}
use Rattle.panel.specs.Registers.{BLOCK, check_block}
use Rattle.histories.specs.Lists.{alone}
use Rattle.opening.specs.Refusals.{among, Only}

number : {X : Type 0} → Given X → ℕ
number (answered x) = 0
number (refused n) = n

-- what an answered call used is refused with the number that its answer is
pub answer_refused : {X : Type 0} (g : Given (Work X)) (n : ℕ) → alone (used_of g) ≡ refused n → answer_of g ≡ refused n
unfolding number
answer_refused (answered w) n e = refused_answers_nothing n (w.used ∷ []) (sym e)
answer_refused (refused m) n e = ap refused (ap number e)

-- ---- lists of numbers

-- each of the first is one of the others
abbrev pub Within : List ℕ → List ℕ → Type 0
Within [] ns = Unit {0}
Within (m ∷ ms) ns = (among m ns ≡ true) × Within ms ns

pub among_within : (n : ℕ) (ms ns : List ℕ) → Within ms ns → among n ms ≡ true → among n ns ≡ true
unfolding among
among_within n [] ns w h = absurd (true≢false (sym h))
among_within n (m ∷ ms) ns w h = go (eqb n m) refl h (among_within n ms ns w.1)
  where
    go : (b : Bool) → eqb n m ≡ b → b || among n ms ≡ true → (among n ms ≡ true → among n ns ≡ true) → among n ns ≡ true
    go true e i later = subst (λ (k : ℕ). among k ns ≡ true) (sym (eqb-true n m e)) w.0
    go false e i later = later i

module _ (ns : List ℕ) where
  -- ---- the parts of a chain

  pub only_answered : {X : Type 0} (x : X) → Only ns (answered x)
  only_answered x n e = refused_answers_nothing n x (sym e)

  pub only_passed : {a : Given (Unit {0})} → a ≡ passed → Only ns a
  only_passed e = subst (Only ns) (sym e) (only_answered tt)

  pub only_refused : {X : Type 0} (m : ℕ) → among m ns ≡ true → Only {X = X} ns (refused m)
  unfolding number
  only_refused m h n e = subst (λ (k : ℕ). among k ns ≡ true) (ap number e) h

  pub only_if : {X : Type 0} (b : Bool) (m : ℕ) (rest : Given X)
      → among m ns ≡ true → Only ns rest → Only ns (refuse_if b m rest)
  only_if true m rest h r = only_refused m h
  only_if false m rest h r = r

  -- what follows may count on the check
  pub only_then : {X : Type 0} (a : Given (Unit {0})) (rest : Given X)
      → Only ns a → (a ≡ passed → Only ns rest) → Only ns (and_then a rest)
  only_then (answered u) rest h r = r refl
  only_then (refused m) rest h r = only_refused m (h m refl)

  pub only_bind : {X Y : Type 0} (g : Given X) (f : X → Given Y)
      → Only ns g → ((x : X) → Only ns (f x)) → Only ns (bind g f)
  only_bind (answered x) f h r = r x
  only_bind (refused m) f h r = only_refused m (h m refl)

  pub only_either : {X : Type 0} (b : Bool) (g h : Given X)
      → Only ns g → Only ns h → Only {X = X} ns (elim b [ true ↦ g | false ↦ h ])
  only_either true g h p q = p
  only_either false g h p q = q

  pub only_answers : {X : Type 0} (g : Given X) → Answers g → Only ns g
  only_answers g a = subst (Only ns) (sym a.1) (only_answered a.0)

  -- what a call worked out, and then its final answer
  pub only_finish : {X Y : Type 0} (core : Given (Work X)) (f : X → Given Y)
      → Only ns core → ((x : X) → Only ns (f x)) → Only ns (finish core f)
  unfolding finish
  only_finish core f h r = only_bind core _ h (λ w. only_bind (f w.answer) _ (r w.answer) (λ y. only_answered _))

  -- and its answer alone
  pub only_answer : {X : Type 0} (g : Given (Work X)) → Only ns g → Only ns (answer_of g)
  only_answer (answered w) h = only_answered w.answer
  only_answer (refused m) h = only_refused m (h m refl)

  -- ---- each check

  module _ (not-Finite : among 5 ns ≡ true) (not-Within : among 6 ns ≡ true) where
    number_only : (x limit : Float) → Only ns (check_number x limit)
    unfolding check_number
    number_only x limit =
        only_if (not (is_finite x)) 5 _ not-Finite
        (only_if (not (le (neg limit) x && le x limit)) 6 passed not-Within
        (only_answered tt))

    pub spherical_only : (s : Spherical) → Only ns (check_spherical s)
    unfolding check_spherical
    spherical_only s = only_then _ _ (number_only _ _) (λ e. number_only _ _)

    pub lon_lat_only : (p : LonLat) → Only ns (check_lon_lat p)
    unfolding check_lon_lat
    lon_lat_only p = only_then _ _ (number_only _ _) (λ e. number_only _ _)

    pub face_only : (f : Face) → Only ns (check_face f)
    unfolding check_face
    face_only f = only_then _ _ (number_only _ _) (λ e. number_only _ _)

  pub counts_only : among 14 ns ≡ true → (positions results : ℕ) → Only ns (check_counts positions results)
  unfolding check_counts
  counts_only h positions results = only_if (not (eqb positions results)) 14 passed h (only_answered tt)

  pub positions_only : among 15 ns ≡ true → (n : ℕ) → Only ns (check_positions n)
  unfolding check_positions
  positions_only h n = only_if (eqb n 0 || ltb 256 n) 15 passed h (only_answered tt)

  pub origins_only : among 16 ns ≡ true → (rs : List PlaceResult) → Only ns (check_origins rs)
  unfolding check_origins
  origins_only h rs = only_if (not (all_on (first_origin rs) rs)) 16 passed h (only_answered tt)

  pub block_only : among 23 ns ≡ true → (b : List ℕ) → Only ns (check_block b)
  unfolding check_block
  block_only h b = only_if (not (eqb (length b) BLOCK)) 23 passed h (only_answered tt)

  pub origin_only : among 4 ns ≡ true → (o : ℕ) → Only ns (check_origin o)
  unfolding check_origin
  origin_only h o = only_if (ltb 11 o) 4 passed h (only_answered tt)

  -- ---- each final answer

  module _ (not-Finite : among 9 ns ≡ true) where
    pub finite_face_only : (f : Face) → Only ns (finite_face f)
    unfolding finite_face
    finite_face_only f = only_if (not (is_finite f.0.x && is_finite f.0.y)) 9 _ not-Finite (only_answered f)

    pub finite_spherical_only : (s : Spherical) → Only ns (finite_spherical s)
    unfolding finite_spherical
    finite_spherical_only s =
        only_if (not (is_finite s.theta.0 && is_finite s.phi.0)) 9 _ not-Finite (only_answered s)

    pub finite_lon_lat_only : (p : LonLat) → Only ns (finite_lon_lat p)
    unfolding finite_lon_lat
    finite_lon_lat_only p =
        only_if (not (is_finite p.longitude.0 && is_finite p.latitude.0)) 9 _ not-Finite (only_answered p)

    pub finite_place_only : (o : ℕ) (f : Face) → Only ns (finite_place o f)
    unfolding finite_place
    finite_place_only o f = only_bind (finite_face f) _ (finite_face_only f) (λ g. only_answered _)

  -- ---- inverse, where no corner is returned

  module _ (A : Arith) (angle-outside : among 19 ns ≡ true) where
    at_angle_only : (k : TriangleConstants) (a b c : Cartesian) (alpha rho : Float)
        → Only ns (at_angle A k a b c alpha rho)
    unfolding at_angle sin_cos_given unless_outside
    at_angle_only k a b c alpha rho =
        let sine = only_if (outside alpha) 19 _ angle-outside (only_answered _) in
        only_bind (sin_cos_given A alpha) _ sine (λ s. only_answered _)

    inside_only : (k : TriangleConstants) (bary : Barycentric) (t : SphericalTriangle) → Only ns (inside A k bary t)
    unfolding inside
    inside_only k bary t = only_either (is_odd A k t) _ _ (at_angle_only k _ _ _ _ _) (at_angle_only k _ _ _ _ _)

    pub inverse_only : (k : TriangleConstants) (f : Face) (face : FaceTriangle) (t : SphericalTriangle)
        → Only ns (inverse A k f face t)
    unfolding inverse from_barycentric
    inverse_only k f face t =
        let bary = face_to_barycentric A f face in
        let threshold = A.◌⊖◌ 1·0 CORNER_MARGIN in
        only_either (lt threshold bary.u) _ _ (only_answered t.a)
        (only_either (lt threshold bary.v) _ _ (only_answered t.b)
        (only_either (lt threshold bary.w) _ _ (only_answered t.c)
        (inside_only k bary t)))
