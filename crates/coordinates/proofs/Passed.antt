-- What a check passes is within its limit. Assumes nothing.
use mathlib.Core.Path.{◌≡◌}
use Prim.Native.Nat.{ℕ}
use mathlib.Core.Bool.{Bool, true, false, not, ◌&&◌, true≢false}
use lib.IntN.{ℤ, pos}
use lib.Dec.{T}
use lib.Ieee.{Float, fin, neg, le, of_bits}
use lib.Ieee.Fits.{and_l, and_r}
use Rattle.answer.specs.Given.{passed, refuse_if}
use Rattle.answer.specs.Number.{is_finite, check_number}
use Rattle.answer.proofs.Given.{refuse_answered, then_answered}
use Rattle.arithmetic.proofs.Bounds.{Within, between_within}
use Rattle.coordinates.specs.Constants.{8·0, 90·0, 360·0}
use Rattle.coordinates.specs.Conversions.{check_lon_lat, check_spherical}
use Rattle.coordinates.specs.declared.lonlat.LonLat.{LonLat}
use Rattle.coordinates.specs.declared.spherical.Spherical.{Spherical}

pub passed_within : (x : Float) (n : ℕ) (d : ℤ) → check_number x (fin false n d) ≡ passed → Within x (fin false n d)
unfolding check_number neg
passed_within x n d e =
    let low = le (fin true n d) x in
    let high = le x (fin false n d) in
    let h = (refuse_answered (not (is_finite x)) 5 (refuse_if (not (low && high)) 6 passed) tt e).1 in
    let t = tested (low && high) (refuse_answered (not (low && high)) 6 passed tt h).0 in
    between_within x n d (and_l low high t) (and_r low high t)
  where
    tested : (b : Bool) → not b ≡ false → T b
    tested true e = tt
    tested false e = absurd (true≢false e)

module _ (p : LonLat) (e : check_lon_lat p ≡ passed) where
  both : (check_number p.longitude.0 360·0 ≡ passed) × (check_number p.latitude.0 90·0 ≡ passed)
  unfolding check_lon_lat
  both = then_answered (check_number p.longitude.0 360·0) (check_number p.latitude.0 90·0) tt e

  pub passed_longitude : Within p.longitude.0 360·0
  unfolding of_bits
  passed_longitude = passed_within p.longitude.0 45 (pos 3) both.0

  pub passed_latitude : Within p.latitude.0 90·0
  unfolding of_bits
  passed_latitude = passed_within p.latitude.0 45 (pos 1) both.1

module _ (s : Spherical) (e : check_spherical s ≡ passed) where
  angles : (check_number s.theta.0 8·0 ≡ passed) × (check_number s.phi.0 8·0 ≡ passed)
  unfolding check_spherical
  angles = then_answered (check_number s.theta.0 8·0) (check_number s.phi.0 8·0) tt e

  pub passed_theta : Within s.theta.0 8·0
  unfolding of_bits
  passed_theta = passed_within s.theta.0 1 (pos 3) angles.0

  pub passed_phi : Within s.phi.0 8·0
  unfolding of_bits
  passed_phi = passed_within s.phi.0 1 (pos 3) angles.1
