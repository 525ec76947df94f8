-- Demand 3, as one claim about every list of calls. Definitions only; `proofs/Theorem` proves it.
use Rattle.std.specs.Prelude.{ℕ, ◌*◌, ◌/◌, ◌<◌, ◌≡◌, ◌↔◌, true, false, List, ◌∷◌, length, get_or, replicate, Float}
use Rattle.std.specs.Float.{nan}
use Rattle.answer.specs.Given.{answered, passed}
use Rattle.arithmetic.specs.Arith.{ieee}
use Rattle.arithmetic.specs.Numbers.{0·0, 1·0}
use Rattle.coordinates.specs.Vector.{cross}
use Rattle.coordinates.specs.declared.coords.Face.{Face}
use Rattle.coordinates.specs.declared.coords.SphericalTriangle.{SphericalTriangle}
use Rattle.coordinates.specs.declared.lonlat.LonLat.{LonLat}
use Rattle.coordinates.specs.declared.spherical.Spherical.{Spherical}
use Rattle.tiling.specs.FaceTriangles.{face_triangle}
use Rattle.set.specs.Set.{Set}
use Rattle.set.specs.Open.{open_given}
use Rattle.set.specs.Sizes.{FACE_SLOTS, FACE_WIDTH, FACE_STORE, SPHERE_SLOTS, SPHERE_WIDTH, SPHERE_STORE}
use Rattle.stores.specs.Slots.{filled, face_run, sphere_run}
use Rattle.dodecahedron.specs.Calls.{forward_on, inverse_on, place_on, unplace_on}
use Rattle.place_list.specs.Lists.{place_list_on}
use Rattle.place_list.specs.declared.PlaceResult.{PlaceResult}
use Rattle.region_work.specs.Region.{region_on}
use Rattle.panel.specs.Step.{step_on}
use Rattle.stores.specs.declared.show.StoreKind.{StoreKind}
use Rattle.histories.specs.Lists.{Standing, standing, Call, opens, shows, asks, Effect, effect, after, step, run}
use Rattle.histories.specs.Since.{faces_used, spheres_used, UsedLast, last_opened}
use Rattle.histories.specs.Defined.{slot_at, sphere_defined}

-- "bit for bit the answer, or the refusal number": with a table, on the sets s and n, for any arguments
pub record SameAnswers (table : List Float) (s n : Set) : Type 0 where
  pub forward : (p : Spherical) (o : ℕ) → (forward_on ieee table s p o).answer ≡ (forward_on ieee table n p o).answer
  pub inverse : (f : Face) (o : ℕ) → (inverse_on ieee table s f o).answer ≡ (inverse_on ieee table n f o).answer
  pub place : (p : LonLat) → (place_on ieee table s p).answer ≡ (place_on ieee table n p).answer
  pub unplace : (f : Face) (o : ℕ) → (unplace_on ieee table s f o).answer ≡ (unplace_on ieee table n f o).answer
  -- Paper 1: "the wish for years of unchanged answers extends to such calls": a list's answer, and every result
  pub place_list : (ps : List LonLat) (rs : List PlaceResult)
      → ((place_list_on ieee table s ps rs).answer ≡ (place_list_on ieee table n ps rs).answer)
      × ((place_list_on ieee table s ps rs).left.results ≡ (place_list_on ieee table n ps rs).left.results)
  -- Paper 4: a region's answer, and every point
  pub region : (ps : List LonLat) (points : List Face)
      → ((region_on ieee table s ps points).answer ≡ (region_on ieee table n ps points).answer)
      × ((region_on ieee table s ps points).points ≡ (region_on ieee table n ps points).points)
  -- Paper 11: a step's own answer, and every byte of the block that it leaves
  pub step : (b : List ℕ)
      → ((step_on ieee table s b).answer ≡ (step_on ieee table n b).answer)
      × ((step_on ieee table s b).left.block ≡ (step_on ieee table n b).left.block)

-- What a call does to the set s changes no number outside the slots that it uses; place i of a store lies in slot i / width.
pub record Untouched (s : Standing) (e : Effect) : Type 0 where
  pub table : (after s e).table ≡ s.table
  pub frame : (after s e).set.frame ≡ s.set.frame
  pub face_length : length (after s e).set.faces ≡ length s.set.faces
  pub face : (i : ℕ) → faces_used e (i / FACE_WIDTH) ≡ false → get_or (after s e).set.faces i nan ≡ get_or s.set.faces i nan
  pub sphere_length : length (after s e).set.spheres ≡ length s.set.spheres
  pub sphere : (i : ℕ) → spheres_used e (i / SPHERE_WIDTH) ≡ false → get_or (after s e).set.spheres i nan ≡ get_or s.set.spheres i nan

-- The set that open with the table t leaves on the buffers b, and that table. Where open answers it is "a newly opened set".
abbrev pub opened : List Float → Set → Standing
opened t b = step (standing t b) (opens t)

-- what the list cs leaves, and the set as its last answered open has left it, the first included
abbrev pub left : List Float → Set → List Call → Standing
left t b cs = run (opened t b) cs

abbrev pub last_open : List Float → Set → List Call → Standing
last_open t b cs = last_opened (opened t b) (opened t b) cs

-- "a call answered since the last successful open, the one the list starts from included, has used" the slot k
abbrev pub FaceUsed : List Float → Set → List Call → ℕ → Type 0
FaceUsed t b cs k = UsedLast faces_used k (opened t b) cs

abbrev pub SphereUsed : List Float → Set → List Call → ℕ → Type 0
SphereUsed t b cs k = UsedLast spheres_used k (opened t b) cs

-- Demand 3 after the list cs of calls, from the set that open with the table t has left on the buffers b
pub record EveryList (t : List Float) (b : Set) (cs : List Call) : Type 0 where
  -- Paper 10: a call after the list takes the table "of the last open that answered, the one the list starts from included"
  pub table : (left t b cs).table ≡ (last_open t b cs).table
  -- "each forward, inverse, place and unplace gives bit for bit the answer, or the refusal number, that it gives on a newly opened set":
  -- any such set, "opened with the same table"
  pub answers : (n : Set) → open_given ieee (left t b cs).table n ≡ passed
      → SameAnswers (left t b cs).table (left t b cs).set (opened (left t b cs).table n).set
  -- "A triangle slot is filled exactly when" it has been used since the last answered open
  pub face_filled : (k : ℕ) → k < FACE_SLOTS → (filled (left t b cs).set.faces (k * FACE_WIDTH) ≡ true) ↔ FaceUsed t b cs k
  pub sphere_filled : (k : ℕ) → k < SPHERE_SLOTS → (filled (left t b cs).set.spheres (k * SPHERE_WIDTH) ≡ true) ↔ SphereUsed t b cs k
  -- "It then holds, bit for bit, the triangle that document 01 defines for it", behind its mark
  pub face_holds : (k : ℕ) → k < FACE_SLOTS → FaceUsed t b cs k → slot_at FACE_WIDTH (left t b cs).set.faces k ≡ 1·0 ∷ face_run (face_triangle ieee k)
  -- Paper 6: and behind it "the cross product of its own b and c, in the Rust's order of operations"
  pub sphere_holds : (k : ℕ) → k < SPHERE_SLOTS → SphereUsed t b cs k
      → (d : SphericalTriangle) × (sphere_defined (last_open t b cs).table (last_open t b cs).set.frame k ≡ answered d)
      × (slot_at SPHERE_WIDTH (left t b cs).set.spheres k ≡ 1·0 ∷ sphere_run d (cross ieee d.b d.c))
  -- "every other slot holds only 0.0", which is +0.0; the stores are their slots and nothing more
  pub face_else : (k : ℕ) → k < FACE_SLOTS → (FaceUsed t b cs k → ⊥) → slot_at FACE_WIDTH (left t b cs).set.faces k ≡ replicate FACE_WIDTH 0·0
  pub sphere_else : (k : ℕ) → k < SPHERE_SLOTS → (SphereUsed t b cs k → ⊥) → slot_at SPHERE_WIDTH (left t b cs).set.spheres k ≡ replicate SPHERE_WIDTH 0·0
  pub face_length : length (left t b cs).set.faces ≡ FACE_STORE
  pub sphere_length : length (left t b cs).set.spheres ≡ SPHERE_STORE
  -- "and the frame is as that open wrote it"
  pub frame : (left t b cs).set.frame ≡ (last_open t b cs).set.frame
  -- "No call but open writes to the set outside the slots it uses": whatever the buffers hold, and whoever wrote it
  pub outside : (s : Standing) (c : Call) → ((table : List Float) → c ≡ opens table → ⊥) → Untouched s (effect s c)
  -- show and its companion write nothing
  pub shown : (s : Standing) (kind : StoreKind) (k : ℕ) → (step s (shows kind k) ≡ s) × (step s (asks kind k) ≡ s)

-- "Take every list of open, forward, inverse, place, unplace and show, refused ones included, whatever their other arguments. It starts
-- from a newly opened set": whatever the three buffers held before, and whichever table it was opened with. Show's companion stands in
-- the list too.
abbrev pub Demand3 : Type 0
Demand3 = (t : List Float) (b : Set) → open_given ieee t b ≡ passed → (cs : List Call) → EveryList t b cs
