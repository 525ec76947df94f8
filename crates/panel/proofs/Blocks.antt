-- What a double and the end of a command write in a block, and what they keep. Assumes nothing.
use mathlib.Core.Path.{◌≡◌, ◌∙◌}
use mathlib.Core.List.{List, ◌++◌}
use Prim.Native.Nat.{ℕ, ◌+◌, ◌≤◌, ◌<◌}
use native.Mathlib.Omega.{arith}
use lib.Ieee.{Float}
use lib.ListN.{length, get_or, set, take, drop, length-append, length-drop, length-set, get_or-append}
use lib.Seq.{length-take-le, get_or-take, get_or-set_same, get_or-set_other}
use Rattle.answer.specs.BigEndian.{double_bytes}
use Rattle.answer.proofs.Bytes.{length_double}
use Rattle.panel.specs.Registers.{BLOCK, COMMAND, STATUS, MASK, INTERRUPT, REFUSAL, FIRST, SECOND, interrupt, ended, with_double}

-- ---- a double
module _ (b : List ℕ) (at : ℕ) (x : Float) (fits : at + 8 ≤ length b) where
  front_length : length (take at b) ≡ at
  front_length = length-take-le at b (omega arith)

  pub double_length : length (with_double b at x) ≡ length b
  unfolding with_double
  double_length =
      let front = length-append (take at b) (double_bytes x) in
      length-append (take at b ++ double_bytes x) (drop (at + 8) b) ∙ omega (arith, front, front_length, length_double x, length-drop (at + 8) b)

  -- what stands before it stays
  pub double_before : (i : ℕ) → i < at → get_or (with_double b at x) i 0 ≡ get_or b i 0
  unfolding with_double
  double_before i h =
      let front = length-append (take at b) (double_bytes x) in
      get_or-append (take at b ++ double_bytes x) (drop (at + 8) b) 0 i (omega (arith, front, front_length))
      ∙ get_or-append (take at b) (double_bytes x) 0 i (omega (arith, front_length))
      ∙ get_or-take at b i 0 h

-- ---- both results, and byte 5 cleared before them
module _ (b : List ℕ) (x y : Float) (long : length b ≡ BLOCK) where
  abbrev pub written : List ℕ
  written = with_double (with_double (set b REFUSAL 0) FIRST x) SECOND y

  first_fits : FIRST + 8 ≤ length (set b REFUSAL 0)
  first_fits = omega (arith, length-set b REFUSAL 0)

  first_length : length (with_double (set b REFUSAL 0) FIRST x) ≡ BLOCK
  first_length = double_length (set b REFUSAL 0) FIRST x first_fits ∙ length-set b REFUSAL 0 ∙ long

  second_fits : SECOND + 8 ≤ length (with_double (set b REFUSAL 0) FIRST x)
  second_fits = omega (arith, first_length)

  pub written_length : length written ≡ BLOCK
  written_length = double_length (with_double (set b REFUSAL 0) FIRST x) SECOND y second_fits ∙ first_length

  written_front : (i : ℕ) → i < FIRST → get_or written i 0 ≡ get_or (set b REFUSAL 0) i 0
  written_front i h =
      double_before (with_double (set b REFUSAL 0) FIRST x) SECOND y second_fits i (omega arith)
      ∙ double_before (set b REFUSAL 0) FIRST x first_fits i h

  pub written_before : (i : ℕ) → i < FIRST → (i ≡ REFUSAL → ⊥) → get_or written i 0 ≡ get_or b i 0
  written_before i h other = written_front i h ∙ get_or-set_other b REFUSAL i 0 0 other

  pub written_refusal : get_or written REFUSAL 0 ≡ 0
  written_refusal = written_front REFUSAL (omega arith) ∙ get_or-set_same b REFUSAL 0 0 (omega arith)

-- ---- the end of a command
module _ (status : ℕ) (b : List ℕ) (long : length b ≡ BLOCK) where
  -- with byte 0 written, and byte 1
  abbrev one : List ℕ
  one = set b COMMAND 0

  abbrev two : List ℕ
  two = set one STATUS status

  two_length : length two ≡ BLOCK
  two_length = length-set one STATUS status ∙ length-set b COMMAND 0 ∙ long

  pub ended_length : length (ended status b) ≡ BLOCK
  unfolding ended
  ended_length = length-set two INTERRUPT (interrupt status (get_or b MASK 0)) ∙ two_length

  pub ended_other : (i : ℕ) → (i ≡ COMMAND → ⊥) → (i ≡ STATUS → ⊥) → (i ≡ INTERRUPT → ⊥) → get_or (ended status b) i 0 ≡ get_or b i 0
  unfolding ended
  ended_other i c s l =
      get_or-set_other two INTERRUPT i (interrupt status (get_or b MASK 0)) 0 l
      ∙ get_or-set_other one STATUS i status 0 s
      ∙ get_or-set_other b COMMAND i 0 0 c

  pub ended_command : get_or (ended status b) COMMAND 0 ≡ 0
  unfolding ended
  ended_command =
      get_or-set_other two INTERRUPT COMMAND (interrupt status (get_or b MASK 0)) 0 (λ e. omega arith)
      ∙ get_or-set_other one STATUS COMMAND status 0 (λ e. omega arith)
      ∙ get_or-set_same b COMMAND 0 0 (omega arith)

  pub ended_status : get_or (ended status b) STATUS 0 ≡ status
  unfolding ended
  ended_status =
      get_or-set_other two INTERRUPT STATUS (interrupt status (get_or b MASK 0)) 0 (λ e. omega arith)
      ∙ get_or-set_same one STATUS status 0 (omega (arith, length-set b COMMAND 0))

  pub ended_line : get_or (ended status b) INTERRUPT 0 ≡ interrupt status (get_or b MASK 0)
  unfolding ended
  ended_line = get_or-set_same two INTERRUPT (interrupt status (get_or b MASK 0)) 0 (omega (arith, two_length))
