-- What a reader may try on the theorem: a refused call leaves the set; open twice is open once; one answered call on a newly opened set
-- fills exactly two slots, or three if it is reflected; place, then show, gives the coordinates defined; and there is always a newly opened
-- set to compare with. Assumes nothing.
use mathlib.Core.Path.{◌≡◌, refl, sym, ap, ap₂, subst, ◌∙◌}
use mathlib.Core.Bool.{Bool, true, false, not, cond, or-true, or-false, true≢false}
use mathlib.Core.List.{List, [], ◌∷◌, ◌++◌}
use Prim.Native.Nat.{ℕ, ◌+◌, ◌*◌}
use lib.Dec.{eqb}
use lib.ListN.{length}
use lib.Ieee.{Float}
use borrow.Author.Tests.{eq-eqb, eqb-true, not-false}
use Rattle.answer.specs.Given.{Given, answered, refused, passed}
use Rattle.answer.proofs.Given.{refuse_answered, then_answered}
use Rattle.arithmetic.specs.Arith.{ieee}
use Rattle.coordinates.specs.declared.coords.Face.{Face}
use Rattle.coordinates.specs.declared.coords.SphericalTriangle.{SphericalTriangle}
use Rattle.coordinates.specs.declared.lonlat.LonLat.{LonLat}
use Rattle.origin.specs.Table.{check_table}
use Rattle.tiling.specs.FaceTriangles.{face_triangle}
use Rattle.crs.specs.Frame.{frame_rows}
use Rattle.set.specs.Sizes.{FRAME, FACE_SLOTS, FACE_WIDTH, SPHERE_SLOTS, SPHERE_WIDTH}
use Rattle.stores.specs.Slots.{filled, face_run, triangle_run}
use Rattle.stores.specs.Slots.{face_slot, sphere_slot}
use Rattle.set.specs.Open.{open_given}
use Rattle.dodecahedron.specs.declared.place.Place.{Place}
use Rattle.stores.specs.declared.used.Used.{Used}
use Rattle.set.proofs.Opening.{open_opened}
use Rattle.stores.specs.declared.show.StoreKind.TheVariants as kind
use Rattle.set.specs.Set.{Set, check_set}
use Rattle.dodecahedron.specs.Work.{used_of}
use Rattle.dodecahedron.specs.declared.work.Work.{Work}
use Rattle.dodecahedron.specs.Calls.{place_given}
use Rattle.histories.specs.Lists.{Standing, standing, Call, opens, forwards, inverses, places, unplaces, lists, regions, steps, shows, asks}
use Rattle.histories.specs.Lists.{Effect, writes, uses, reads, alone, effect, table_opened, after, step, run}
use Rattle.histories.specs.Since.{faces_at}
use Rattle.histories.specs.Defined.{sphere_defined}
use Rattle.histories.specs.EveryList.{opened, left, last_open}
use Rattle.histories.specs.Consequences.{count, filled_slots, is_refused}
use Rattle.stores.proofs.Within.{face_below, sphere_below}
use Rattle.histories.proofs.Taken.{fresh}
use Rattle.histories.proofs.Uses.{UsedOn, EffectOn, effect_fits}
use Rattle.histories.proofs.Counts.{count_same, count_one, count_faces}
use Rattle.histories.proofs.Theorem.{face_mark, sphere_mark}
use Rattle.histories.proofs.Told.{Since, newly, counted, since, since_open}
use Rattle.histories.proofs.Shown.{shown_on, face_shown, sphere_shown}

-- ---- a refused call leaves the set, whatever the buffers hold

pub refused_leaves : (s : Standing) (c : Call) → is_refused (effect s c) ≡ true → step s c ≡ s
refused_leaves s c = go (effect s c)
  where
    go : (e : Effect) → is_refused e ≡ true → after s e ≡ s
    go (writes table (answered u)) is = absurd (true≢false (sym is))
    go (writes table (refused n)) is = refl
    go (uses (answered us)) is = absurd (true≢false (sym is))
    go (uses (refused n)) is = refl
    go reads is = refl

-- ---- open twice is open once, also where it refuses

pub open_twice : (t : List Float) (b : Set) → opened t (opened t b).set ≡ opened t b
open_twice t b = go (open_given ieee t b) refl
  where
    -- the newly opened set stays what it is, by whatever open gives on it
    again : (g : Given (Unit {0})) → after (standing t (fresh t)) (writes t g) ≡ standing t (fresh t)
    again (answered u) = refl
    again (refused n) = refl

    go : (g : Given (Unit {0})) → open_given ieee t b ≡ g → opened t (after (standing t b) (writes t g)).set ≡ after (standing t b) (writes t g)
    go (answered u) e = again (open_given ieee t (fresh t))
    go (refused n) e = rw e

-- open answers only where the frame has its rows
rows_long : (t : List Float) (b : Set) → open_given ieee t b ≡ passed → (check_table ieee t ≡ passed) × (length (frame_rows ieee t) ≡ FRAME)
unfolding open_given
rows_long t b e =
    let set = then_answered (check_set b) _ tt e in
    let table = then_answered (check_table ieee t) _ tt set.1 in
    let rows = refuse_answered (not (eqb (length (frame_rows ieee t)) FRAME)) 7 _ tt table.1 in
    (table.0, eqb-true _ FRAME (not-false _ rows.0))

fresh_passes : (t : List Float) → length (frame_rows ieee t) ≡ FRAME → check_set (fresh t) ≡ passed
unfolding check_set
fresh_passes t l = rw l

-- and where the first open answers, so does the second
pub open_answers_again : (t : List Float) (b : Set) → open_given ieee t b ≡ passed → open_given ieee t (opened t b).set ≡ passed
open_answers_again t b e =
    let known = rows_long t b e in
    rw e (open_opened ieee t (fresh t) (rw (fresh_passes t known.1) known.0) known.1)

-- ---- the table that calls take after a list is one that some buffers open with: there is a newly opened set to compare with

abbrev pub CanOpen : List Float → Type 0
CanOpen t = (n : Set) × (open_given ieee t n ≡ passed)

pub step_opens : (s : Standing) (c : Call) → CanOpen s.table → CanOpen (step s c).table
step_opens s (opens t) can = by (open_given ieee t s.set) refl
  where
    by : (g : Given (Unit {0})) → open_given ieee t s.set ≡ g → CanOpen (table_opened s.table t g)
    by (answered u) e = (s.set, e)
    by (refused n) e = can
step_opens s (forwards p o) can = can
step_opens s (inverses f o) can = can
step_opens s (places p) can = can
step_opens s (unplaces f o) can = can
step_opens s (lists ps results) can = can
step_opens s (regions ps points) can = can
step_opens s (steps b) can = can
step_opens s (shows kind k) can = can
step_opens s (asks kind k) can = can

run_opens : (cs : List Call) (s : Standing) → CanOpen s.table → CanOpen (run s cs).table
run_opens [] s can = can
run_opens (c ∷ cs) s can = run_opens cs (step s c) (step_opens s c can)

pub opened_opens : (t : List Float) (b : Set) → open_given ieee t b ≡ passed → CanOpen (opened t b).table
opened_opens t b ready = step_opens (standing t b) (opens t) (b, ready)

pub always_opens : (t : List Float) (b : Set) → open_given ieee t b ≡ passed → (cs : List Call) → CanOpen (left t b cs).table
always_opens t b ready cs = run_opens cs (opened t b) (opened_opens t b ready)

-- ---- one answered call on a newly opened set

module _ (t : List Float) (b : Set) (ready : open_given ieee t b ≡ passed) (c : Call) (u : Used)
    (is : effect (opened t b) c ≡ uses (answered (u ∷ []))) where
  on : UsedOn (opened t b).table (opened t b).set u
  on = (subst (EffectOn (opened t b)) is (effect_fits (opened t b) c) (u ∷ []) refl).0

  one_since : since_open t b (c ∷ []) ≡ counted (newly (opened t b)) (uses (answered (u ∷ []))) (opened t b)
  one_since = rw is

  faces_filled : count FACE_SLOTS (λ k. filled (left t b (c ∷ [])).set.faces (k * FACE_WIDTH)) ≡ cond u.reflected 2 1
  faces_filled =
      count_same FACE_SLOTS _ (faces_at u.index u.reflected)
      (λ k h. face_mark t b ready (c ∷ []) k h ∙ ap (λ (w : Since). w.faces k) one_since ∙ or-false (faces_at u.index u.reflected k))
      ∙ count_faces u.index u.reflected on.index

  sphere_filled : count SPHERE_SLOTS (λ k. filled (left t b (c ∷ [])).set.spheres (k * SPHERE_WIDTH)) ≡ 1
  sphere_filled =
      let slot = sphere_slot u.origin u.index u.reflected in
      count_same SPHERE_SLOTS _ (λ k. eqb k slot)
      (λ k h. sphere_mark t b ready (c ∷ []) k h ∙ ap (λ (w : Since). w.spheres k) one_since ∙ or-false (eqb k slot))
      ∙ count_one SPHERE_SLOTS _ (sphere_below u.origin u.index u.reflected on.origin on.index)

  -- one face slot and one sphere slot, or two face slots and one sphere slot
  pub one_call : filled_slots (left t b (c ∷ [])).set ≡ cond u.reflected 3 2
  one_call = ap₂ (λ (m n : ℕ). m + n) faces_filled sphere_filled ∙ go u.reflected
    where
      go : (r : Bool) → cond r 2 1 + 1 ≡ cond r 3 2
      go true = refl
      go false = refl

-- ---- place, then show

since_then : (w : Since) (s : Standing) (cs ds : List Call) → since w s (cs ++ ds) ≡ since (since w s cs) (run s cs) ds
since_then w s [] ds = refl
since_then w s (c ∷ cs) ds = since_then (counted w (effect s c) (step s c)) (step s c) cs ds

-- it uses the face slot of the point
uses_face : (i : ℕ) (r : Bool) → faces_at i r (face_slot i r) ≡ true
uses_face i false = eq-eqb i i refl
uses_face i true = rw (eq-eqb (i + 10) (i + 10) refl)

module _ (t : List Float) (b : Set) (ready : open_given ieee t b ≡ passed) (cs : List Call) (p : LonLat) (w : Work Place)
    (answers : place_given ieee (left t b cs).table (left t b cs).set p ≡ answered w) where
  abbrev whole : List Call
  whole = cs ++ places p ∷ []

  abbrev u : Used
  u = w.used

  is : effect (left t b cs) (places p) ≡ uses (answered (u ∷ []))
  is = ap (λ (g : Given (Work Place)). uses (alone (used_of g))) answers

  used_on : UsedOn (left t b cs).table (left t b cs).set u
  used_on = (subst (EffectOn (left t b cs)) is (effect_fits (left t b cs) (places p)) (u ∷ []) refl).0

  whole_since : since_open t b whole ≡ counted (since_open t b cs) (uses (answered (u ∷ []))) (left t b cs)
  whole_since =
      since_then (newly (opened t b)) (opened t b) cs (places p ∷ [])
      ∙ ap (λ (e : Effect). counted (since_open t b cs) e (step (left t b cs) (places p))) is

  -- the face triangle of the point, by its definition
  pub place_shows_face : let k = face_slot u.index u.reflected in shown_on (left t b whole).set kind.Face k ≡ face_run (face_triangle ieee k)
  place_shows_face =
      let k = face_slot u.index u.reflected in
      face_shown t b ready whole k (face_below u.index u.reflected used_on.index)
      (ap (λ (v : Since). v.faces k) whole_since ∙ rw (uses_face u.index u.reflected) (or-true ((since_open t b cs).faces k)))

  -- the sphere triangle of its slot, by its definition
  pub place_shows_sphere : let k = sphere_slot u.origin u.index u.reflected in
      (d : SphericalTriangle) × (sphere_defined (last_open t b whole).table (last_open t b whole).set.frame k ≡ answered d)
      × (shown_on (left t b whole).set kind.Sphere k ≡ triangle_run d)
  place_shows_sphere =
      let k = sphere_slot u.origin u.index u.reflected in
      sphere_shown t b ready whole k (sphere_below u.origin u.index u.reflected used_on.origin used_on.index)
      (ap (λ (v : Since). v.spheres k) whole_since ∙ rw (eq-eqb k k refl) (or-true ((since_open t b cs).spheres k)))
