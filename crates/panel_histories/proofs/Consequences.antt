-- What follows for a reader who tries the claim: a step after any list of events, the same registers at two moments, and a second step right
-- after a command. Assumes nothing.
use mathlib.Core.Path.{◌≡◌, sym, ap, ap₂, subst, ◌∙◌}
use mathlib.Core.List.{List, [], ◌∷◌, ◌++◌}
use Prim.Native.Nat.{ℕ}
use lib.Ieee.{Float}
use lib.ListN.{set}
use lib.Seq.{set-get_or}
use Rattle.answer.specs.Given.{passed}
use Rattle.arithmetic.specs.Arith.{ieee}
use Rattle.set.specs.Set.{Set}
use Rattle.set.specs.Open.{open_given}
use Rattle.panel.specs.Registers.{INTERRUPT, interrupt_anew}
use Rattle.panel.specs.Step.{step_on}
use Rattle.panel.specs.EveryStep.{AfterCommand}
use Rattle.histories.specs.EveryList.{opened}
use Rattle.histories.proofs.Consequences.{CanOpen, step_opens, opened_opens}
use Rattle.panel_histories.specs.Events.{Event, host_writes, steps, calls, State, state, stepped, next}
use Rattle.panel_histories.specs.EveryPanel.{Ends, EachEnds}
use Rattle.panel_histories.proofs.Theorem.{every_panel}

-- where a list of events ends
abbrev pub runs : State → List Event → State
runs d [] = d
runs d (e ∷ es) = runs (next d e) es

last_ends : (d : State) (es : List Event) → EachEnds d (es ++ steps ∷ []) → Ends (runs d es) steps
last_ends d [] each = each.0
last_ends d (e ∷ es) each = last_ends (next d e) es each.1

-- a step after any list
pub after_any_list : (t : List Float) (b : Set) → open_given ieee t b ≡ passed → (block : List ℕ) (es : List Event)
    → Ends (runs (state block (opened t b)) es) steps
after_any_list t b ready block es = last_ends (state block (opened t b)) es (every_panel t b ready block (es ++ steps ∷ []))

-- the table that a step takes is one that some buffers open with
can_open : (d : State) (es : List Event) → CanOpen d.standing.table → CanOpen (runs d es).standing.table
can_open d [] can = can
can_open d (host_writes b ∷ es) can = can_open (next d (host_writes b)) es can
can_open d (steps ∷ es) can = can_open (next d steps) es can
can_open d (calls c ∷ es) can = can_open (next d (calls c)) es (step_opens d.standing c can)

-- Two sets, whatever their lists were: where the same table is taken and the same registers stand there, whatever they hold, a step leaves
-- the same block. So it is for command 1 and for command 2.
pub same_registers : (t u : List Float) (b c : Set) (block other : List ℕ) (es fs : List Event) →
    let d = runs (state block (opened t b)) es in
    let e = runs (state other (opened u c)) fs in
    open_given ieee t b ≡ passed → open_given ieee u c ≡ passed →
    d.standing.table ≡ e.standing.table → d.block ≡ e.block → (stepped d).block ≡ (stepped e).block
same_registers t u b c block other es fs ready also tables blocks =
    let d = runs (state block (opened t b)) es in
    let e = runs (state other (opened u c)) fs in
    let new = can_open (state block (opened t b)) es (opened_opens t b ready) in
    let here = after_any_list t b ready block es new.0 new.1 in
    let there = after_any_list u c also other fs new.0 (subst (λ (table : List Float). open_given ieee table new.0 ≡ passed) tables new.1) in
    let Left : List Float → List ℕ → List ℕ = λ table bytes. (step_on ieee table (opened table new.0).set bytes).left.block in
    here.block ∙ ap₂ Left tables blocks ∙ sym there.block

-- a block after a command: with command 0 a further step leaves it as it is
pub idle : {b c : List ℕ} → AfterCommand b c → interrupt_anew c ≡ c
unfolding interrupt_anew
idle {b} {c} after = ap (set c INTERRUPT) (sym after.line) ∙ set-get_or c INTERRUPT 0
