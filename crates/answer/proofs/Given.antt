-- From an answer back to the tests before it: where a chain of refusals and calls answered, no test refused and every part answered.
-- And a chain whose first part is known goes on from there. Assumes nothing.
use mathlib.Core.Path.{◌≡◌, refl, sym, ap}
use mathlib.Core.Bool.{Bool, true, false, true≢false}
use Prim.Native.Nat.{ℕ}
use native.Mathlib.Omega.{arith}
use Rattle.std.specs.Prelude.{Result, Ok, Err, IsErr, IsErrAnd}
use Rattle.answer.specs.Given.{Given, answered, refused, passed, refuse_if, and_then, bind}
use Rattle.answer.specs.Answer.{number_of, given}
use Rattle.answer.specs.declared.Refusal.{Refusal}

module _ {A : Type 0} where
  pub refused_answers_nothing : {X : Type 0} (n : ℕ) (x : A) → refused n ≡ answered x → X
  refused_answers_nothing n x e = absurd (let z : ◌≡◌ {A = ℕ} 0 1 = cc in omega arith)

  -- ---- backwards
  pub refuse_answered : (b : Bool) (n : ℕ) (rest : Given A) (x : A) → refuse_if b n rest ≡ answered x → (b ≡ false) × (rest ≡ answered x)
  refuse_answered true n rest x e = refused_answers_nothing n x e
  refuse_answered false n rest x e = (refl, e)

  pub then_answered : (a : Given (Unit {0})) (rest : Given A) (x : A) → and_then a rest ≡ answered x → (a ≡ passed) × (rest ≡ answered x)
  then_answered (answered u) rest x e = (refl, e)
  then_answered (refused n) rest x e = refused_answers_nothing n x e

  pub bind_answered : {B : Type 0} (g : Given B) (f : B → Given A) (x : A) → bind g f ≡ answered x → (b : B) × (g ≡ answered b) × (f b ≡ answered x)
  bind_answered (answered b) f x e = (b, refl, e)
  bind_answered (refused n) f x e = refused_answers_nothing n x e

  -- ---- forwards
  pub then_passed : (a : Given (Unit {0})) (rest : Given A) → a ≡ passed → and_then a rest ≡ rest
  then_passed a rest e = ap (λ (g : Given (Unit {0})). and_then g rest) e

  pub then_refused : (a : Given (Unit {0})) (rest : Given A) (n : ℕ) → a ≡ refused n → and_then a rest ≡ refused n
  then_refused a rest n e = ap (λ (g : Given (Unit {0})). and_then g rest) e

  pub bind_of_answered : {B : Type 0} (g : Given B) (f : B → Given A) (b : B) → g ≡ answered b → bind g f ≡ f b
  bind_of_answered g f b e = ap (λ (h : Given _). bind h f) e

  pub bind_of_refused : {B : Type 0} (g : Given B) (f : B → Given A) (n : ℕ) → g ≡ refused n → bind g f ≡ refused n
  bind_of_refused g f n e = ap (λ (h : Given _). bind h f) e

  -- ---- one test after another

  pub then_then : (a b : Given (Unit {0})) (rest : Given A) → and_then a (and_then b rest) ≡ and_then (and_then a b) rest
  then_then (answered u) b rest = refl
  then_then (refused n) b rest = refl

-- a test that passes may be left out
pub then_pass : (a b : Given (Unit {0})) → b ≡ passed → and_then a b ≡ a
then_pass (answered u) b e = e
then_pass (refused n) b e = refl

-- what `?` returns gives the refusal that it met
pub handed_on : {A : Type 0} (r : Result A Refusal) (e : Refusal) → IsErr r × IsErrAnd r (λ f. f ≡ e) → given r ≡ refused (number_of e)
handed_on (Ok a) e h = absurd (true≢false (sym h.0))
handed_on (Err f) e h = ap (λ (r : Refusal). refused (number_of r)) h.1
