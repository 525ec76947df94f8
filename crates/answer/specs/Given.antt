-- What a call gives: its answer, or the number of its refusal. A table of refusals is written as it is read: the first that applies.
-- Definitions only.
use Rattle.std.specs.Prelude.{ℕ, Bool, true, false}

pub data Given (A : Type 0) : Type 0 where
  answered : A → Given A
  refused : ℕ → Given A

-- 0 for an answer, and the number of a refusal
abbrev pub status : {A : Type 0} → Given A → ℕ
status (answered a) = 0
status (refused n) = n

-- nothing was refused, and there is nothing to carry
abbrev pub passed : Given (Unit {0})
passed = answered tt

-- refused with n where the test holds, and what follows otherwise
abbrev pub refuse_if : {A : Type 0} → Bool → ℕ → Given A → Given A
refuse_if true n rest = refused n
refuse_if false n rest = rest

-- a check, and then what follows
abbrev pub and_then : {A : Type 0} → Given (Unit {0}) → Given A → Given A
and_then (answered u) rest = rest
and_then (refused n) rest = refused n

-- what follows from an answer
abbrev pub bind : {A B : Type 0} → Given A → (A → Given B) → Given B
bind (answered a) f = f a
bind (refused n) f = refused n
