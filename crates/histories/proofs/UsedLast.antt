-- The slots told along a list are those that `UsedLast` says: some call of the list uses the slot, and no open after that call answers.
-- Assumes nothing.
use mathlib.Core.Path.{◌≡◌, refl, sym, ◌∙◌}
use mathlib.Core.Logic.{◌⊎◌, inl, inr, ⊎_elim, ◌↔◌}
use mathlib.Core.Bool.{Bool, true, false, cond, ◌||◌, or-true, or-false, false≢true}
use mathlib.Core.List.{List, [], ◌∷◌}
use Prim.Native.Nat.{ℕ}
use lib.Ieee.{Float}
use Rattle.std.proofs.lemmas.Bool.{or_cases}
use Rattle.answer.specs.Given.{Given, answered, refused}
use Rattle.stores.specs.declared.used.Used.{Used}
use Rattle.set.specs.Set.{Set}
use Rattle.histories.specs.Lists.{Standing, Call, Effect, writes, uses, reads, effect, step}
use Rattle.histories.specs.Since.{Slots, faces_of, spheres_of, used_by, faces_used, spheres_used, is_opened, NoneOpened, UsedLast, here, later}
use Rattle.histories.specs.EveryList.{opened}
use Rattle.histories.proofs.Told.{Since, newly, counted, since, since_open}

-- over one store: its slots in what is told, and those that an answer uses
module _ (pick : Since → Slots) (of : Given (List Used) → Slots) (k : ℕ) (fresh : (s : Standing) → pick (newly s) k ≡ false)
    (adds : (w : Since) (g : Given (List Used)) (s : Standing) → pick (counted w (uses g) s) k ≡ (pick w k || of g k)) where
  abbrev used : Effect → Slots
  used = used_by of

  next : (w : Since) (e : Effect) (s : Standing) → pick (counted w e s) k ≡ cond (is_opened e) false (pick w k || used e k)
  next w (writes table (answered u)) s = fresh s
  next w (writes table (refused n)) s = sym (or-false (pick w k))
  next w (uses g) s = adds w g s
  next w reads s = sym (or-false (pick w k))

  opens_none : (e : Effect) → used e k ≡ true → is_opened e ≡ false
  opens_none (writes table g) e = absurd (false≢true e)
  opens_none (uses g) e = refl
  opens_none reads e = refl

  -- from what is told: used before the list, with no open in it, or by a call of it
  from_told : (cs : List Call) (w : Since) (s : Standing) → pick (since w s cs) k ≡ true
      → ((pick w k ≡ true) × NoneOpened s cs) ⊎ UsedLast used k s cs
  from_told [] w s e = inl (e, tt)
  from_told (c ∷ cs) w s e =
      ⊎_elim
      (λ p. before (is_opened (effect s c)) refl (sym (next w (effect s c) (step s c)) ∙ p.0) p.1)
      (λ p. inr (later p))
      (from_told cs (counted w (effect s c) (step s c)) (step s c) e)
    where
      before : (b : Bool) → is_opened (effect s c) ≡ b → cond (is_opened (effect s c)) false (pick w k || used (effect s c) k) ≡ true
          → NoneOpened (step s c) cs
          → ((pick w k ≡ true) × NoneOpened s (c ∷ cs)) ⊎ UsedLast used k s (c ∷ cs)
      before true o e none = absurd (false≢true (rw o at e))
      before false o e none = ⊎_elim (λ p. inl (p, (o, none))) (λ p. inr (here p none)) (or_cases (pick w k) (used (effect s c) k) (rw o at e))

  -- and back
  to_told_before : (cs : List Call) (w : Since) (s : Standing) → pick w k ≡ true → NoneOpened s cs → pick (since w s cs) k ≡ true
  to_told_before [] w s e none = e
  to_told_before (c ∷ cs) w s e none =
      to_told_before cs (counted w (effect s c) (step s c)) (step s c) (next w (effect s c) (step s c) ∙ rw (none.0, e)) none.1

  to_told : (cs : List Call) (w : Since) (s : Standing) → UsedLast used k s cs → pick (since w s cs) k ≡ true
  to_told [] w s l = elim l [ ]
  to_told (c ∷ cs) w s (here e none) =
      let used-now : pick (counted w (effect s c) (step s c)) k ≡ true =
      next w (effect s c) (step s c) ∙ rw (opens_none (effect s c) e, e) (or-true (pick w k)) in
      to_told_before cs (counted w (effect s c) (step s c)) (step s c) used-now none
  to_told (c ∷ cs) w s (later l) = to_told cs (counted w (effect s c) (step s c)) (step s c) l

  -- from a newly opened set, on which none has been used
  told : (t : List Float) (b : Set) (cs : List Call) → (pick (since_open t b cs) k ≡ true) ↔ UsedLast used k (opened t b) cs
  told t b cs = (
    (λ e. ⊎_elim (λ p. absurd (false≢true (sym (fresh (opened t b)) ∙ p.0))) (λ l. l) (from_told cs (newly (opened t b)) (opened t b) e)),
    to_told cs (newly (opened t b)) (opened t b),
  )

-- ---- both stores

pub face_used_last : (t : List Float) (b : Set) (cs : List Call) (k : ℕ) → ((since_open t b cs).faces k ≡ true) ↔ UsedLast faces_used k (opened t b) cs
face_used_last t b cs k = told (λ w. w.faces) faces_of k (λ s. refl) (λ w g s. refl) t b cs

pub sphere_used_last : (t : List Float) (b : Set) (cs : List Call) (k : ℕ) → ((since_open t b cs).spheres k ≡ true) ↔ UsedLast spheres_used k (opened t b) cs
sphere_used_last t b cs k = told (λ w. w.spheres) spheres_of k (λ s. refl) (λ w g s. refl) t b cs
