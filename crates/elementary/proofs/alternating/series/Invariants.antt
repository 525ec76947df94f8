-- `alternating::series` meets its contract. The loop's invariant: with the coefficients to come, p gives what the first does with all. Assumes nothing.
use Rattle.std.proofs.Common.{◌≡◌, drop}
use Rattle.arithmetic.specs.Arith.{ieee}
use Rattle.elementary.specs.Sine.{series}
use Rattle.elementary.proofs.alternating.series.Given as goal

abbrev pub invariant-loop-c : goal.invariant-loop-c
invariant-loop-c l = series ieee l.z l.p (drop l.c-index l.rest) ≡ series ieee l.z l.first l.rest
