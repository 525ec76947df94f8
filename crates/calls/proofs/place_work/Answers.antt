-- `place_work` meets its contract: refused by its tests, or what forward comes to on the nearest origin, with that. Assumes nothing.
use mathlib.Core.Path.{refl, sym, ap, ◌∙◌}
use Rattle.answer.specs.Answer.{given}
use Rattle.answer.proofs.Given.{handed_on}
use Rattle.arithmetic.specs.Arith.{ieee}
use Rattle.coordinates.proofs.Sizes.{latitude_inside, from_lon_lat_inside}
use Rattle.nearest.proofs.LowestNearest.{nearest_is}
use Rattle.set.proofs.Lengths.{with_passed}
use Rattle.dodecahedron.proofs.Ended.{place_refused}
use Rattle.dodecahedron.proofs.Steps.{by_core, by_answer}
use Rattle.calls.proofs.Ends.{place_passed}
use Rattle.calls.proofs.place_work.Goals as goal

pub returns-in_err-check_with : goal.returns-in_err-check_with
returns-in_err-check_with g c =
    let tests = sym c.check_with.ensures ∙ ap given c.in_err-check_with.was in
    handed_on _ _ c.from_residual.ensures ∙ sym (place_refused ieee _ _ _ _ (rw tests))

pub returns-in_err-check_lon_lat : goal.returns-in_err-check_lon_lat
returns-in_err-check_lon_lat g c =
    let tests = sym c.check_with.ensures ∙ ap given c.in_ok-check_with.was in
    let own = sym c.check_lon_lat.ensures ∙ ap given c.in_err-check_lon_lat.was in
    handed_on _ _ c.from_residual-in_err-check_lon_lat.ensures ∙ sym (place_refused ieee _ _ _ _ (rw (tests, own)))

pub from_lon_lat-spherical-requires : goal.from_lon_lat-spherical-requires
from_lon_lat-spherical-requires g c =
    latitude_inside _ (sym c.check_lon_lat.ensures ∙ ap given c.in_ok-check_lon_lat.was)

pub find_nearest_origin-origin-requires : goal.find_nearest_origin-origin-requires
find_nearest_origin-origin-requires g c =
    let tests = sym c.check_with.ensures ∙ ap given c.in_ok-check_with.was in
    let own = sym c.check_lon_lat.ensures ∙ ap given c.in_ok-check_lon_lat.was in
    record {
      table_value = (with_passed ieee _ _ tests).1;
      point = rw c.from_lon_lat-spherical.ensures (from_lon_lat_inside _ own);
    }

-- the nearest origin is one of the table's twelve
pub forward_passed-requires : goal.forward_passed-requires
forward_passed-requires g c =
    let own = sym c.check_lon_lat.ensures ∙ ap given c.in_ok-check_lon_lat.was in
    record {
      tests = sym c.check_with.ensures ∙ ap given c.in_ok-check_with.was;
      id = rw c.find_nearest_origin-origin.ensures (nearest_is ieee _ _).origin;
      inside = rw c.from_lon_lat-spherical.ensures (from_lon_lat_inside _ own);
    }

pub returns-in_err-face : goal.returns-in_err-face
returns-in_err-face g c =
    let tests = sym c.check_with.ensures ∙ ap given c.in_ok-check_with.was in
    let own = sym c.check_lon_lat.ensures ∙ ap given c.in_ok-check_lon_lat.was in
    let work = sym c.forward_passed.ensures ∙ ap given c.in_err-face.was in
    handed_on _ _ c.from_residual-in_err-face.ensures
    ∙ by_core _ _ _ work
    ∙ place_passed _ _ _ _ _ c.from_lon_lat-spherical.ensures c.find_nearest_origin-origin.ensures tests own

pub returns : goal.returns
returns g c =
    let tests = sym c.check_with.ensures ∙ ap given c.in_ok-check_with.was in
    let own = sym c.check_lon_lat.ensures ∙ ap given c.in_ok-check_lon_lat.was in
    let work = sym c.forward_passed.ensures ∙ ap given c.in_ok-face.was in
    by_answer _ _ _ _ work refl ∙ place_passed _ _ _ _ _ c.from_lon_lat-spherical.ensures c.find_nearest_origin-origin.ensures tests own
