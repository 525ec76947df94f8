-- Paper 9: "Opening cannot fail." For the built-in table. Definitions only; `proofs/Theorem` proves each claim.
use Rattle.std.specs.Prelude.{ℕ, ◌<◌, ◌≡◌, List, length, get_or, Float}
use Rattle.std.specs.Float.{binary64}
use Rattle.std.specs.Float.Ieee.{of_bits}
use Rattle.answer.specs.Given.{refused, passed}
use Rattle.arithmetic.specs.Arith.{ieee}
use Rattle.coordinates.specs.Vector.{cartesian}
use Rattle.coordinates.specs.declared.coords.Cartesian.{Cartesian}
use Rattle.coordinates.specs.declared.coords.Face.{Face}
use Rattle.coordinates.specs.declared.lonlat.LonLat.{LonLat}
use Rattle.coordinates.specs.declared.spherical.Spherical.{Spherical}
use Rattle.origin.specs.Origins.{ORIGINS}
use Rattle.set.specs.Sizes.{FRAME, FACE_STORE, SPHERE_SLOTS, SPHERE_STORE}
use Rattle.set.specs.Set.{Set}
use Rattle.set.specs.Open.{open_on}
use Rattle.dodecahedron.specs.Projection.{row_at}
use Rattle.dodecahedron.specs.Calls.{forward_on, inverse_on, place_on, unplace_on}
use Rattle.place_list.specs.Lists.{placed_in_turn}
use Rattle.place_list.specs.declared.PlaceResult.{PlaceResult}
use Rattle.histories.specs.Lists.{standing, Call, Effect, writes, uses, reads, effect}
use Rattle.histories.specs.Defined.{sphere_defined}
use Rattle.histories.specs.EveryList.{SameAnswers, EveryList, opened, left}
use Rattle.panel.specs.Registers.{COMMAND, REFUSAL}
use Rattle.panel.specs.Step.{check_step, step_on}
use Rattle.histories.specs.BuiltIn.{BuiltIn}
use Rattle.frame_data.specs.Rows.{ROWS}
use Rattle.frame_data.specs.Claims.{Answers}

-- "buffers of the right lengths", whatever they hold
pub record RightLengths (b : Set) : Type 0 where
  pub frame : length b.frame ≡ FRAME
  pub faces : length b.faces ≡ FACE_STORE
  pub spheres : length b.spheres ≡ SPHERE_STORE

-- "Prove that open on buffers of the right lengths always answers."
abbrev pub OpenAnswers : Type 0
OpenAnswers = (b : Set) → RightLengths b → (open_on ieee ORIGINS b).answer ≡ passed

-- a call is refused with n, told by what it does to the set
abbrev pub RefusedWith : ℕ → Effect → Type 0
RefusedWith n (writes table g) = g ≡ refused n
RefusedWith n (uses g) = g ≡ refused n
RefusedWith n reads = ⊥

-- "forward, inverse, place and unplace never give 8": on the set s, with any arguments; nor does any call of a list that
-- brings no other table, whichever of them it carries
pub record Without8 (s : Set) : Type 0 where
  pub forward : (p : Spherical) (o : ℕ) → (forward_on ieee ORIGINS s p o).answer ≡ refused 8 → ⊥
  pub inverse : (f : Face) (o : ℕ) → (inverse_on ieee ORIGINS s f o).answer ≡ refused 8 → ⊥
  pub place : (l : LonLat) → (place_on ieee ORIGINS s l).answer ≡ refused 8 → ⊥
  pub unplace : (f : Face) (o : ℕ) → (unplace_on ieee ORIGINS s f o).answer ≡ refused 8 → ⊥
  -- nor is any position of a list refused with 8
  pub place_list : (ps : List LonLat) (i : ℕ) (r : PlaceResult) → i < length ps → (get_or (placed_in_turn ieee ORIGINS s ps).results i r).refusal ≡ 8 → ⊥
  -- nor does a command of the caption panel end with 8 in its refusal byte
  pub step : (b : List ℕ) → check_step ieee ORIGINS s b ≡ passed → (get_or b COMMAND 0 ≡ 0 → ⊥) → get_or (step_on ieee ORIGINS s b).left.block REFUSAL 0 ≡ 8 → ⊥
  pub any_call : (c : Call) → BuiltIn c → RefusedWith 8 (effect (standing ORIGINS s) c) → ⊥

-- after the list cs, calls take the built-in table: always, where no open of it brought another (`table_left` of
-- `histories/proofs/BuiltIn`), and also where the last open that answered brought this one again
abbrev pub InForce : Set → List Call → Type 0
InForce b cs = (left ORIGINS b cs).table ≡ ORIGINS

-- "in a set opened and then touched only by our calls": after every list of demand 3, the empty one included
abbrev pub Never8 : Type 0
Never8 = (b : Set) → RightLengths b → (cs : List Call) → InForce b cs → Without8 (left ORIGINS b cs).set

-- "All 240 sphere triangles .., and its outcome carried to each slot": each has its triangle, built from the frame as
-- it then is
abbrev pub EverySlot : Type 0
EverySlot =
    (b : Set) → RightLengths b → (cs : List Call) → InForce b cs → (k : ℕ) → k < SPHERE_SLOTS →
    Answers (sphere_defined ORIGINS (left ORIGINS b cs).set.frame k)

-- a row by its bits
abbrev bits : ℕ → ℕ → ℕ → Cartesian
bits x y z = cartesian (of_bits binary64 x) (of_bits binary64 y) (of_bits binary64 z)

-- "Constants come from frame rows 0, 32, 12 at each call."
pub record ConstantRows (frame : List Float) : Type 0 where
  -- the north pole
  pub row_0 : row_at frame 0 ≡ bits 0x0000_0000_0000_0000 0x0000_0000_0000_0000 0x3ff0_0000_0000_0000
  -- a midpoint: 0.5257311121191337, 0.0, 0.8506508083520399
  pub row_32 : row_at frame 32 ≡ bits 0x3fe0_d2ca_0da1_530e 0x0000_0000_0000_0000 0x3feb_3888_0b46_03e4
  -- a vertex: 0.49112347318842314, 0.35682208977309005, 0.7946544722917661
  pub row_12 : row_at frame 12 ≡ bits 0x3fdf_6e91_25e9_19f9 0x3fd6_d62c_5184_3608 0x3fe9_6dcf_3743_9ff0

-- the frame is data, all 62 rows of it, and so are these three
abbrev pub KnownFrame : Type 0
KnownFrame =
    (b : Set) → RightLengths b → (cs : List Call) → InForce b cs →
    ((left ORIGINS b cs).set.frame ≡ ROWS) × ConstantRows (left ORIGINS b cs).set.frame

-- Demand 3 with "buffers of the right lengths" in place of "open answers", for the set that a list starts from and for
-- the one that answers are compared with
abbrev pub Demand3ByLengths : Type 0
Demand3ByLengths =
    (b : Set) → RightLengths b → (cs : List Call) →
    EveryList ORIGINS b cs
    × (InForce b cs → (n : Set) → RightLengths n → SameAnswers ORIGINS (left ORIGINS b cs).set (opened ORIGINS n).set)
