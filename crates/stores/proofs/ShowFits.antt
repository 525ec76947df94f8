-- Show's companion backwards. Assumes nothing.
--     slot_fits              where it answers, both stores have their lengths and the slot is one of the store named
--     slot_lies              the slot then lies in its store to the end of its coordinates
--     said_filled, no_part   show's test of it: filled, or nothing to show, and then the empty part is at the face store's start
use mathlib.Core.Path.{◌≡◌, refl, sym}
use mathlib.Core.Bool.{Bool, not, true, false}
use mathlib.Core.List.{List, []}
use native.Mathlib.Omega.{arith}
use Prim.Native.Nat.{ℕ, ◌+◌, ◌*◌, ◌<◌, ◌≤◌}
use lib.Dec.{eqb, leb}
use lib.ListN.{length}
use lib.Ieee.{Float}
use borrow.Author.Tests.{leb-false}
use Rattle.std.specs.Prelude.{Result, Ok, Err}
use Rattle.std.specs.Result.{result_unwrap_or}
use Rattle.answer.specs.Given.{Given, answered}
use Rattle.answer.specs.Answer.{given}
use Rattle.answer.specs.declared.Refusal.{Refusal}
use Rattle.answer.proofs.Given.{refuse_answered}
use Rattle.set.specs.Sizes.{FACE_STORE, SPHERE_STORE}
use Rattle.set.proofs.Lengths.{is_number}
use Rattle.stores.specs.Show.{named, slots_in, width_in, coordinates_in, slot_given, where_filled, place_in, place_shown}
use Rattle.stores.specs.declared.show.StoreKind.{StoreKind}
use Rattle.stores.specs.declared.show.StoreKind.TheVariants as kind

pub record SlotFits (faces spheres : List Float) (kind : StoreKind) (k : ℕ) : Type 0 where
  pub faces_fit : length faces ≡ FACE_STORE
  pub spheres_fit : length spheres ≡ SPHERE_STORE
  pub below : k < slots_in kind

pub slot_fits : (faces spheres : List Float) (kind : StoreKind) (k : ℕ) (b : Bool)
    → slot_given faces spheres kind k ≡ answered b → SlotFits faces spheres kind k
unfolding slot_given
slot_fits faces spheres kind k b e =
    let p = refuse_answered (not (eqb (length faces) FACE_STORE)) 2 _ b e in
    let q = refuse_answered (not (eqb (length spheres) SPHERE_STORE)) 3 _ b p.1 in
    let r = refuse_answered (leb (slots_in kind) k) 10 _ b q.1 in
    record {
      faces_fit = is_number (length faces) FACE_STORE p.0;
      spheres_fit = is_number (length spheres) SPHERE_STORE q.0;
      below = leb-false (slots_in kind) k r.0;
    }

pub record SlotLies (faces spheres : List Float) (kind : StoreKind) (k : ℕ) : Type 0 where
  pub start : k * width_in kind < SPHERE_STORE
  pub part : k * width_in kind + 1 + coordinates_in kind ≤ length (named kind faces spheres)

lies : (faces spheres : List Float) (kind : StoreKind) (k : ℕ) → SlotFits faces spheres kind k → SlotLies faces spheres kind k
lies faces spheres kind.Face k fits = record { start = omega (arith, fits.below); part = omega (arith, fits.faces_fit, fits.below) }
lies faces spheres kind.Sphere k fits = record { start = omega (arith, fits.below); part = omega (arith, fits.spheres_fit, fits.below) }

pub slot_lies : (faces spheres : List Float) (kind : StoreKind) (k : ℕ) (b : Bool)
    → slot_given faces spheres kind k ≡ answered b → SlotLies faces spheres kind k
slot_lies faces spheres kind k b e = lies faces spheres kind k (slot_fits faces spheres kind k b e)

-- ---- show's test
pub said_filled : (r : Result Bool Refusal) {b : Bool} {g : Given Bool} → given r ≡ g → b ≡ result_unwrap_or r false → b ≡ true → g ≡ answered true
said_filled (Ok b) e is holds = rw (sym e, sym is, holds) refl
said_filled (Err r) e is holds = (cc)

pub record NoPart (g : Given Bool) : Type 0 where
  pub numbers : (part : List Float) → where_filled g part ≡ []
  pub place : (faces spheres : ℕ × ℕ) (kind : StoreKind) (k : ℕ) → place_shown g faces spheres kind k ≡ place_in faces 0

pub no_part : (r : Result Bool Refusal) → result_unwrap_or r false ≡ false → NoPart (given r)
no_part (Ok true) e = (cc)
no_part (Ok false) e = record { numbers = λ part. refl; place = λ faces spheres kind k. refl }
no_part (Err r) e = record { numbers = λ part. refl; place = λ faces spheres kind k. refl }
