-- projections/equal_area.rs, in its order and with its order of operations. Definitions only.
use Rattle.std.specs.Prelude.{Bool, true, false, Float}
use Rattle.std.specs.Float.{binary64}
use Rattle.std.specs.Float.Ieee.{of_bits, neg, lt}
use Rattle.arithmetic.specs.Arith.{Arith}
use Rattle.arithmetic.specs.Numbers.{0·0, 1·0}
use Rattle.elementary.specs.Signs.{abs, max_zero}
use Rattle.answer.specs.Given.{Given, answered, bind}
use Rattle.elementary.specs.Sine.{sin_cos_given}
use Rattle.elementary.specs.declared.sine.SinCos.{SinCos}
use Rattle.coordinates.specs.Constants.{2·0}
use Rattle.coordinates.specs.CoordinateTransforms.{face_to_barycentric, barycentric_to_face}
use Rattle.coordinates.specs.Vector.{length, dot, cross, normalize, scale, scale_and_add}
use Rattle.coordinates.specs.declared.coords.Face.{Face}
use Rattle.coordinates.specs.declared.coords.Cartesian.{Cartesian}
use Rattle.coordinates.specs.declared.coords.Barycentric.{Barycentric}
use Rattle.coordinates.specs.declared.coords.FaceTriangle.{FaceTriangle}
use Rattle.coordinates.specs.declared.coords.SphericalTriangle.{SphericalTriangle}
use Rattle.equal_area.specs.SphericalPolygon.{spherical_triangle_area}
use Rattle.equal_area.specs.declared.equal_area.TriangleConstants.{TriangleConstants}

-- 1e-14
abbrev pub CORNER_MARGIN : Float
CORNER_MARGIN = of_bits binary64 0x3d06_849b_86a1_2b9b

module _ (A : Arith) where
  open A use {◌⊕◌, ◌⊖◌, ◌⊗◌, ◌⊘◌, root}

  infixl 60 ◌⊕◌ ◌⊖◌
  infixl 70 ◌⊗◌ ◌⊘◌
  unfoldable pub compute_constants : SphericalTriangle → TriangleConstants
  compute_constants t =
      let ab = dot A t.a t.b in
      let ac = dot A t.a t.c in
      let bc = dot A t.b t.c in
      let v = dot A t.a (cross A t.b t.c) in
      let p = ac ⊕ bc in
      let q = ab ⊕ 1·0 in
      let r = ab ⊗ bc ⊖ ac in
      let f = p ⊗ p ⊖ q ⊗ q in
      let g = 2·0 ⊗ q ⊗ r in
      record {
        a_dot_b = ab;
        a_dot_c = ac;
        alpha_transform = record { c1c = v ⊗ v ⊖ f; c2c = neg g; c1s = neg 2·0 ⊗ v ⊗ p; c2s = 2·0 ⊗ v ⊗ q; c1o = v ⊗ v ⊕ f; c2o = g };
        area_abc = (spherical_triangle_area A t.a t.b t.c).0;
        volume_abc = v;
      }

  -- ---- forward

  -- if d > 0.0 { 1.0 / d } else { 1.0 }
  unfoldable pub one_over : Float → Float
  one_over d = elim (lt 0·0 d) [ true ↦ 1·0 ⊘ d | false ↦ 1·0 ]

  -- EqualAreaProjection::forward; bxc stands for cross(b, c)
  unfoldable pub forward : TriangleConstants → Cartesian → SphericalTriangle → Cartesian → FaceTriangle → Face
  forward k v t bxc face =
      let p₀ = scale_and_add A (scale A v k.volume_abc) t.a (neg (dot A v bxc)) in
      let d = length A p₀ in
      let p = scale A p₀ (one_over d) in
      let area_abp = max_zero (spherical_triangle_area A t.a t.b p).0 in
      let alpha = area_abp ⊘ k.area_abc in
      let rho = (d ⊘ k.volume_abc) ⊗ root ((1·0 ⊕ dot A t.a p) ⊘ (1·0 ⊕ dot A t.a v)) in
      barycentric_to_face A (record { u = 1·0 ⊖ rho; v = rho ⊗ (1·0 ⊖ alpha); w = rho ⊗ alpha }) face

  -- ---- inverse

  -- a mirror-image triangle: its A · B is nearer to the canonical A · C than to A · B
  unfoldable pub is_odd : TriangleConstants → SphericalTriangle → Bool
  is_odd k t =
      let ab = dot A t.a t.b in
      lt (abs (ab ⊖ k.a_dot_c)) (abs (ab ⊖ k.a_dot_b))

  -- the angle from the area share: (b2 / rho) * area_abc
  unfoldable pub alpha_of : TriangleConstants → Float → Float → Float
  alpha_of k b2 rho = (b2 ⊘ rho) ⊗ k.area_abc

  -- P between B and C, in the even orientation, at the angle alpha, whose sine and cosine s are
  unfoldable pub point_p : TriangleConstants → Cartesian → Cartesian → SinCos → Cartesian
  point_p k b c s =
      let m = k.alpha_transform in
      let weight_b = m.c1c ⊗ s.cos ⊕ m.c1s ⊗ s.sin ⊕ m.c1o in
      let weight_c = m.c2c ⊗ s.cos ⊕ m.c2s ⊗ s.sin ⊕ m.c2o in
      normalize A (scale_and_add A (scale A b weight_b) c weight_c)

  -- the point between A and P
  unfoldable pub between : Cartesian → Cartesian → Float → Cartesian
  between a p rho =
      let s = dot A a p in
      let t = 1·0 ⊕ rho ⊗ rho ⊗ (s ⊖ 1·0) in
      let weight_p = rho ⊗ root ((1·0 ⊕ t) ⊘ (1·0 ⊕ s)) in
      let weight_a = t ⊖ s ⊗ weight_p in
      scale_and_add A (scale A a weight_a) p weight_p

  -- the point at the angle alpha, rho from A; Paper 7: 19 where that angle is outside
  unfoldable pub at_angle : TriangleConstants → Cartesian → Cartesian → Cartesian → Float → Float → Given Cartesian
  at_angle k a b c alpha rho = bind (sin_cos_given A alpha) λ s. answered (between a (point_p k b c s) rho)

  -- where no corner is returned; an odd triangle is normalised by exchanging B and C and the matching weight
  unfoldable pub inside : TriangleConstants → Barycentric → SphericalTriangle → Given Cartesian
  inside k bary t =
      let rho = 1·0 ⊖ bary.u in
      elim (is_odd k t) [
        | true ↦ at_angle k t.a t.c t.b (alpha_of k bary.v rho) rho
        | false ↦ at_angle k t.a t.b t.c (alpha_of k bary.w rho) rho
      ]

  -- "Inverse returns a, b, c, tried in that order, when u, v, w exceeds 1 − 1e-14"
  unfoldable pub from_barycentric : TriangleConstants → Barycentric → SphericalTriangle → Given Cartesian
  from_barycentric k bary t =
      let threshold = 1·0 ⊖ CORNER_MARGIN in
      elim (lt threshold bary.u) [
        | true ↦ answered t.a
        | false ↦
            elim (lt threshold bary.v) [
              | true ↦ answered t.b
              | false ↦ elim (lt threshold bary.w) [ true ↦ answered t.c | false ↦ inside k bary t ]
            ]
      ]

  -- EqualAreaProjection::inverse
  unfoldable pub inverse : TriangleConstants → Face → FaceTriangle → SphericalTriangle → Given Cartesian
  inverse k f face t = from_barycentric k (face_to_barycentric A f face) t
