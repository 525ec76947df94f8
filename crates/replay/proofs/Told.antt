-- What `told` leaves of a call that answers nothing is the outcome of its status. Assumes nothing.
use Rattle.std.proofs.Common.{◌≡◌, None, Ok, Err, IfOk, IfErr, Result}
use Rattle.answer.specs.Answer.{number_of, given}
use Rattle.answer.specs.Given.{Given, status}
use Rattle.answer.specs.declared.Refusal.{Refusal}
use Rattle.replay.specs.Outcome.{outcome_of}
use Rattle.replay.specs.declared.outcome.Outcome.{Outcome}

-- the outcome of a call that answers nothing
abbrev pub of_status : Given (Unit {0}) → Outcome
of_status answer = outcome_of (status answer) None None None

pub told_as : (r : Result (Unit {0}) Refusal) (o : Outcome) → IfOk r (λ _. o ≡ outcome_of 0 None None None)
    → IfErr r (λ refusal. o ≡ outcome_of (number_of refusal) None None None) → o ≡ of_status (given r)
told_as (Ok u) o answered refused = answered
told_as (Err e) o answered refused = refused
