-- Paper 7: "Only the angle from the area share in inverse can meet it" (`sine_arguments`), whichever table that passes 21 is brought. Assumes nothing.
use mathlib.Core.Path.{◌≡◌}
use mathlib.Core.Bool.{true, false}
use mathlib.Core.List.{List}
use Prim.Native.Nat.{ℕ, ◌<◌}
use lib.Ieee.{Float, of_int}
use Rattle.arithmetic.specs.Arith.{ieee}
use Rattle.coordinates.specs.CoordinateTransforms.{from_lon_lat, to_spherical}
use Rattle.coordinates.specs.declared.spherical.Spherical.{Spherical}
use Rattle.coordinates.proofs.Sizes.{latitude_inside, passed_inside, passed_colatitude, from_lon_lat_inside, half_inside, spherical_phi, inside_12, inside_16}
use Rattle.coordinates.specs.Constants.{8·0}
use Rattle.elementary.specs.Sine.{beyond}
use Rattle.elementary.specs.Arctangent.{atan}
use Rattle.elementary.proofs.Sizes.{atan_small}
use Rattle.origin.specs.Origins.{origin_at}
use Rattle.origin.specs.Table.{numbers_sound}
use Rattle.origin.proofs.Sizes.{sound_small, small_axis, small_angle}
use Rattle.tiling.proofs.Sizes.{normalized_inside, figure_turn, figure_up, figure_down, figure_constants, quintant_inside}
use Rattle.crs.proofs.Sizes.{around_inside}
use Rattle.stores.proofs.CornerAngles.{corner_inside}
use Rattle.dodecahedron.proofs.Sizes.{inverse_colatitude}
use Rattle.histories.specs.SineArguments.{InsideBoth, InsideHaversine, SineArguments}

haversine : (s axis : Spherical) → InsideBoth s → InsideBoth axis → InsideHaversine s axis
haversine s axis h j =
    record {
      half_theta = half_inside s.theta.0 axis.theta.0 h.0 j.0;
      half_phi = half_inside s.phi.0 axis.phi.0 h.1 j.1;
      own_phi = h.1;
      axis_phi = j.1;
    }

pub sine_arguments : (table : List Float) → numbers_sound table ≡ true → SineArguments table
unfolding of_int
sine_arguments table sound =
    let axis : (k : ℕ) → k < 12 → InsideBoth (origin_at table k).axis = λ k h. small_axis (origin_at table k) (sound_small table sound k h) in
    let angle : (k : ℕ) → k < 12 → beyond 8·0 (origin_at table k).angle.0 ≡ false = λ k h. small_angle (origin_at table k) (sound_small table sound k h) in
    record {
      latitude = latitude_inside;
      to_lon_lat = passed_colatitude;
      unplace = λ s f o w e. inverse_colatitude (origin_at table o) s f o w e;
      forward = passed_inside;
      place = from_lon_lat_inside;
      center = axis;
      around = λ k m h j. around_inside m (origin_at table k).angle.0 j (angle k h);
      arc = λ x. inside_12 (atan ieee x) (atan_small x);
      corner = λ f k h. corner_inside f (origin_at table k).angle.0 (angle k h);
      gnomonic = λ c. inside_16 (to_spherical ieee c).phi.0 (spherical_phi c);
      nearest = λ s k h e. haversine s (origin_at table k).axis (passed_inside s e) (axis k h);
      place_nearest = λ p k h e. haversine (from_lon_lat ieee p) (origin_at table k).axis (from_lon_lat_inside p e) (axis k h);
      reflection = normalized_inside;
      figure_c = figure_turn;
      figure_v = figure_up;
      figure_w = figure_down;
      figure_constants = figure_constants;
      quintants = quintant_inside;
    }
