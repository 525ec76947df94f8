-- Paper 5: "What is kept is defined from the list of accepted additions alone". No window is spoken of here. Definitions only.
use Rattle.std.specs.Prelude.{ℕ, suc, ◌+◌, cond, List, [], ◌∷◌, ◌++◌, eqb, leb, ltb, length}
use Rattle.answer.specs.Given.{Given, answered, refused, passed, refuse_if}
use Rattle.window.specs.Window.{MOST, SPAN}

-- "each with an unsigned 32-bit minute and an origin"
pub record Strike : Type 0 where
  pub minute : ℕ
  pub origin : ℕ

abbrev pub strike : ℕ → ℕ → Strike
strike m o = record { minute = m; origin = o }

-- those of some strikes that are less than 180 minutes behind minute m, in their order
unfoldable pub within : ℕ → List Strike → List Strike
within m [] = []
within m (s ∷ ss) = cond (ltb m (s.minute + SPAN)) (s ∷ within m ss) (within m ss)

-- the minute of the last of some strikes, and l where there is none
unfoldable pub last_from : ℕ → List Strike → ℕ
last_from l [] = l
last_from l (s ∷ ss) = last_from s.minute ss

-- that of the last accepted addition: no minute is earlier than 0
abbrev pub last_minute : List Strike → ℕ
last_minute acc = last_from 0 acc

-- what is kept after the accepted additions acc: those that are less than 180 minutes behind the last of them
abbrev pub kept : List Strike → List Strike
kept acc = within (last_minute acc) acc

-- what an addition gives after the accepted additions acc: 4, then 17, then 18, which looks at what remains "after the drop"
unfoldable pub given_after : List Strike → Strike → Given (Unit {0})
given_after acc s =
    refuse_if (ltb 11 s.origin) 4
    (refuse_if (ltb s.minute (last_minute acc)) 17
    (refuse_if (leb MOST (length (within s.minute acc))) 18
    passed))

-- the accepted additions after one more addition, which gave g
abbrev pub joined : Given (Unit {0}) → List Strike → Strike → List Strike
joined (answered u) acc s = acc ++ (s ∷ [])
joined (refused n) acc s = acc

-- those of the additions ss that are accepted, after the accepted additions acc
unfoldable pub accepted_after : List Strike → List Strike → List Strike
accepted_after acc [] = acc
accepted_after acc (s ∷ ss) = accepted_after (joined (given_after acc s) acc s) ss

-- the accepted ones of a list of additions
abbrev pub accepted : List Strike → List Strike
accepted ss = accepted_after [] ss

-- how many of some strikes have origin k
unfoldable pub count : ℕ → List Strike → ℕ
count k [] = 0
count k (s ∷ ss) = cond (eqb s.origin k) (suc (count k ss)) (count k ss)
