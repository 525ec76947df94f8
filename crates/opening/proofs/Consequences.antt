-- What a reader may try on Paper 9's claims. Assumes nothing.
use mathlib.Core.Path.{◌≡◌, refl, sym, ap, subst, ◌∙◌}
use mathlib.Core.Bool.{true, false, true≢false}
use mathlib.Core.List.{List, [], ◌∷◌, ◌++◌}
use Prim.Native.Nat.{ℕ}
use lib.ListN.{replicate, length-replicate}
use lib.Ieee.{nan}
use Rattle.answer.specs.Given.{passed}
use Rattle.answer.proofs.Given.{then_answered}
use Rattle.arithmetic.specs.Arith.{ieee}
use Rattle.origin.specs.Origins.{ORIGINS}
use Rattle.set.specs.Sizes.{FRAME, FACE_STORE, SPHERE_STORE}
use Rattle.set.specs.Set.{Set, set_of, check_set}
use Rattle.set.specs.Open.{open_given, open_on, new_set}
use Rattle.set.proofs.Lengths.{set_passed}
use Rattle.histories.specs.Lists.{Standing, standing, Call, effect, step}
use Rattle.histories.specs.EveryList.{opened, left}
use Rattle.histories.specs.BuiltIn.{AllBuiltIn}
use Rattle.histories.proofs.BuiltIn.{table_kept, table_left}
use Rattle.opening.specs.Opening.{RightLengths, RefusedWith, InForce, Without8}
use Rattle.opening.specs.Refusals.{among, CALL_REFUSALS, NoneRefused}
use Rattle.opening.proofs.Lists.{left_then}
use Rattle.opening.proofs.Theorem.{open_answers, lengths_after, call_left, never_8}

-- ---- where open answers

-- on no others
pub only_right_lengths : (b : Set) → (open_on ieee ORIGINS b).answer ≡ passed → RightLengths b
unfolding open_given
only_right_lengths b e =
    let fits = set_passed b (then_answered (check_set b) _ tt e).0 in
    record { frame = fits.frame; faces = fits.faces; spheres = fits.spheres }

-- Demand 3's premise can be met: there are buffers on which open answers. These hold a NaN in every place.
pub a_set_opens : (b : Set) × ((open_on ieee ORIGINS b).answer ≡ passed)
a_set_opens =
    let b = set_of (replicate FRAME nan) (replicate FACE_STORE nan) (replicate SPHERE_STORE nan) in
    let frame = length-replicate FRAME nan in
    let faces = length-replicate FACE_STORE nan in
    let spheres = length-replicate SPHERE_STORE nan in
    (b, open_answers b (record { frame = frame; faces = faces; spheres = spheres }))

-- whatever the buffers held, the newly opened set is one and the same
pub one_opened_set : (b : Set) → RightLengths b → opened ORIGINS b ≡ standing ORIGINS (new_set ieee ORIGINS)
one_opened_set b l = rw (open_answers b l)

-- the case of the empty list
pub newly_opened : (b : Set) → RightLengths b → Without8 (opened ORIGINS b).set
newly_opened b l = never_8 b l [] (table_left b [] tt)

-- "touched only by our calls" without a table
pub never_8_built_in : (b : Set) → RightLengths b → (cs : List Call) → AllBuiltIn cs → Without8 (left ORIGINS b cs).set
never_8_built_in b l cs all = never_8 b l cs (table_left b cs all)

-- ---- after every list open answers again

pub open_answers_after : (b : Set) → RightLengths b → (cs : List Call) → InForce b cs
    → (open_on ieee ORIGINS (left ORIGINS b cs).set).answer ≡ passed
open_answers_after b l cs is = open_answers (left ORIGINS b cs).set (lengths_after b l cs is)

-- ---- along a list

-- no call of a list, open included, gives a number that is not left
module _ (b : Set) (l : RightLengths b) (n : ℕ) (gone : among n CALL_REFUSALS ≡ false) where
  none_from : (before after : List Call) (s : Standing) → left ORIGINS b before ≡ s → s.table ≡ ORIGINS → AllBuiltIn after → NoneRefused n s after
  none_from before [] s e is all = tt
  none_from before (c ∷ cs) s e is all =
      let in-force = ap (λ (t : Standing). t.table) e ∙ is in
      let there = ap (λ (t : Standing). t.set) e in
      let same : standing ORIGINS (left ORIGINS b before).set ≡ s = λ j. standing (sym is j) (there j) in
      let at : Standing → Type 0 = λ t. RefusedWith n (effect t c) in
      let left_over : at s → among n CALL_REFUSALS ≡ true = λ r. call_left b l before in-force c all.0 n (subst at (sym same) r) in
      let next = left_then ORIGINS b before c e in (
        (λ r. true≢false (sym (left_over r) ∙ gone)),
        none_from (before ++ c ∷ []) cs (step s c) next (table_kept s c is all.0) all.1,
      )

  pub none_refused : (cs : List Call) → AllBuiltIn cs → NoneRefused n (opened ORIGINS b) cs
  none_refused cs all = none_from [] cs (opened ORIGINS b) refl (table_left b [] tt) all

-- these among them
pub no_call_gives : (b : Set) → RightLengths b → (cs : List Call) → AllBuiltIn cs → let s = opened ORIGINS b in
    NoneRefused 1 s cs × NoneRefused 2 s cs × NoneRefused 3 s cs × NoneRefused 7 s cs × NoneRefused 8 s cs
    × NoneRefused 21 s cs × NoneRefused 22 s cs
unfolding among
no_call_gives b l cs all = (
  none_refused b l 1 refl cs all,
  none_refused b l 2 refl cs all,
  none_refused b l 3 refl cs all,
  none_refused b l 7 refl cs all,
  none_refused b l 8 refl cs all,
  none_refused b l 21 refl cs all,
  none_refused b l 22 refl cs all,
)
