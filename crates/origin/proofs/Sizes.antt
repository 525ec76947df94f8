-- The numbers of a table that are sound are finite, and the angles of every origin are within ±8; where the table has no such row they are NaN, which no bound
-- excludes. So are those of the built-in table. Assumes nothing.
use mathlib.Core.Path.{◌≡◌, refl, sym, ap, ◌∙◌, subst}
use Prim.Native.Nat.{ℕ, zero, suc, ◌+◌, ◌*◌, ◌/◌, ◌%◌, ◌≤◌, ◌<◌}
use native.Mathlib.Omega.{arith}
use mathlib.Core.Bool.{Bool, true, false, ◌&&◌}
use mathlib.Core.List.{List}
use lib.Dec.{T, ltb}
use lib.IntN.{pos}
use lib.ListN.{length, get_or, get_or-eq_default}
use lib.Ieee.{Float, nan, fin, le, neg, of_bits}
use lib.Ieee.Bits.{is_true}
use lib.Ieee.Fits.{and_l, and_r}
use borrow.Author.Tests.{ltb-true, ltb-false}
use Rattle.answer.specs.Number.{is_finite}
use Rattle.arithmetic.specs.Arith.{ieee}
use Rattle.arithmetic.specs.Numbers.{1·0}
use Rattle.arithmetic.proofs.Bounds.{between_within}
use Rattle.arithmetic.proofs.Bounded.{Bounded, bounded, bounded_nan}
use Rattle.elementary.specs.Sine.{beyond, outside}
use Rattle.elementary.proofs.Inside.{not_beyond}
use Rattle.coordinates.specs.Constants.{8·0}
use Rattle.coordinates.proofs.Sizes.{inside_8}
use Rattle.origin.specs.Origins.{ORIGINS, origin_at}
use Rattle.origin.specs.Table.{within, sound, row_sound, every_row, numbers_sound}
use Rattle.origin.specs.declared.utils.Origin.{Origin}
use Rattle.origin.proofs.BuiltInPasses.{built_in_passes}
use Rattle.origin.proofs.Check.{passed_sound}

-- an origin's angles
pub record Small (o : Origin) : Type 0 where
  pub theta : Bounded o.axis.theta.0 8·0
  pub phi : Bounded o.axis.phi.0 8·0
  pub turn : Bounded o.angle.0 8·0

-- ---- a sound row

sound_bounded : (x : Float) → T (sound 8·0 x) → Bounded x 8·0
unfolding of_bits neg
sound_bounded x h =
    let l = le (fin true 1 (pos 3)) x in
    let u = le x (fin false 1 (pos 3)) in
    let g = and_r (is_finite x) (l && u) h in
    bounded (between_within x 1 (pos 3) (and_l l u g) (and_r l u g))

-- each of seven
record Seven (a b c d e f g : Bool) : Type 0 where
  first : T a
  second : T b
  third : T c
  fourth : T d
  fifth : T e
  sixth : T f
  seventh : T g

seven : (a b c d e f g : Bool) → T (a && b && c && d && e && f && g) → Seven a b c d e f g
seven a b c d e f g h =
    let six = and_l (a && b && c && d && e && f) g h in
    let five = and_l (a && b && c && d && e) f six in
    let four = and_l (a && b && c && d) e five in
    let three = and_l (a && b && c) d four in
    let two = and_l (a && b) c three in
    record {
      first = and_l a b two;
      second = and_r a b two;
      third = and_r (a && b) c three;
      fourth = and_r (a && b && c) d four;
      fifth = and_r (a && b && c && d) e five;
      sixth = and_r (a && b && c && d && e) f six;
      seventh = and_r (a && b && c && d && e && f) g h;
    }

abbrev Parts : Origin → Type 0
Parts o =
    Seven (sound 8·0 o.axis.theta.0) (sound 8·0 o.axis.phi.0)
    (sound 1·0 o.quat.x) (sound 1·0 o.quat.y) (sound 1·0 o.quat.z) (sound 1·0 o.quat.w) (sound 8·0 o.angle.0)

parts : (o : Origin) → T (row_sound o) → Parts o
unfolding row_sound
parts o h = seven _ _ _ _ _ _ _ h

row_small : (o : Origin) → T (row_sound o) → Small o
row_small o h =
    let p = parts o h in
    record {
      theta = sound_bounded o.axis.theta.0 p.first;
      phi = sound_bounded o.axis.phi.0 p.second;
      turn = sound_bounded o.angle.0 p.seventh;
    }

-- ---- a sound table

row_at : (test : Origin → Bool) (table : List Float) (m k j : ℕ) → T (every_row test table m k) → j < m → T (test (origin_at table (k + j)))
unfolding every_row
row_at test table zero k j h l = absurd (omega arith)
row_at test table (suc m) k zero h l =
    let e : k ≡ k + 0 = omega arith in
    subst (λ (n : ℕ). T (test (origin_at table n))) e (and_l (test (origin_at table k)) (every_row test table m (suc k)) h)
row_at test table (suc m) k (suc j) h l =
    let e : suc k + j ≡ k + suc j = omega arith in
    let rest = and_r (test (origin_at table k)) (every_row test table m (suc k)) h in
    subst (λ (n : ℕ). T (test (origin_at table n))) e (row_at test table m (suc k) j rest (omega arith))

module _ (table : List Float) (s : numbers_sound table ≡ true) where
  row_sound_lem : (k : ℕ) → k < 12 → T (row_sound (origin_at table k))
  unfolding numbers_sound
  row_sound_lem k h =
      let e : 0 + k ≡ k = omega arith in
      subst (λ (n : ℕ). T (row_sound (origin_at table n))) e (row_at row_sound table 12 0 k (rw s tt) h)

  -- one of the twelve
  pub sound_small : (k : ℕ) → k < 12 → Small (origin_at table k)
  sound_small k h = row_small (origin_at table k) (row_sound_lem k h)

  -- any of the 84 numbers is finite
  pub sound_finite : (n : ℕ) → n < 84 → is_finite (get_or table n nan) ≡ true
  unfolding origin_at
  sound_finite n h = at (n % 7) refl
    where
      k : ℕ
      k = n / 7

      p : Parts (origin_at table k)
      p = parts (origin_at table k) (row_sound_lem k (omega arith))

      is : (m : ℕ) (limit : Float) → T (sound limit (get_or table m nan)) → n ≡ m → is_finite (get_or table n nan) ≡ true
      is m limit t e =
          ap (λ (i : ℕ). is_finite (get_or table i nan)) e
          ∙ is_true (is_finite (get_or table m nan)) (and_l (is_finite (get_or table m nan)) (within limit (get_or table m nan)) t)

      at : (j : ℕ) → n % 7 ≡ j → is_finite (get_or table n nan) ≡ true
      at zero e = is (7 * k) 8·0 p.first (omega arith)
      at (suc zero) e = is (7 * k + 1) 8·0 p.second (omega arith)
      at (suc (suc zero)) e = is (7 * k + 2) 1·0 p.third (omega arith)
      at (suc (suc (suc zero))) e = is (7 * k + 3) 1·0 p.fourth (omega arith)
      at (suc (suc (suc (suc zero)))) e = is (7 * k + 4) 1·0 p.fifth (omega arith)
      at (suc (suc (suc (suc (suc zero))))) e = is (7 * k + 5) 1·0 p.sixth (omega arith)
      at (suc (suc (suc (suc (suc (suc zero)))))) e = is (7 * k + 6) 8·0 p.seventh (omega arith)
      at (suc (suc (suc (suc (suc (suc (suc j))))))) e = absurd (omega arith)

  module _ (rows : length table ≡ 84) where
    past : (n : ℕ) → 84 ≤ n → Bounded (get_or table n nan) 8·0
    past n h = subst (λ x. Bounded x 8·0) (sym (get_or-eq_default table nan {n = n} (omega arith))) (bounded_nan 8·0)

    no_row : (k : ℕ) → 12 ≤ k → Small (origin_at table k)
    unfolding origin_at
    no_row k h = record { theta = past (7 * k) (omega arith); phi = past (7 * k + 1) (omega arith); turn = past (7 * k + 6) (omega arith) }

    -- any number of an origin
    pub table_small : (k : ℕ) → Small (origin_at table k)
    table_small k = by_test (ltb k 12) refl
      where
        by_test : (b : Bool) → ltb k 12 ≡ b → Small (origin_at table k)
        by_test true e = sound_small k (ltb-true k 12 e)
        by_test false e = no_row k (ltb-false k 12 e)

-- ---- the built-in table

pub origins_sound : numbers_sound ORIGINS ≡ true
origins_sound = passed_sound ieee ORIGINS built_in_passes

-- ---- as a contract asks

module _ (o : Origin) (h : Small o) where
  pub small_axis : (outside o.axis.theta.0 ≡ false) × (outside o.axis.phi.0 ≡ false)
  small_axis = (inside_8 o.axis.theta.0 h.theta, inside_8 o.axis.phi.0 h.phi)

  pub small_angle : beyond 8·0 o.angle.0 ≡ false
  unfolding of_bits
  small_angle = not_beyond o.angle.0 1 (pos 3) h.turn
