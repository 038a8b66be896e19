use Rattle.std.specs.Prelude.{◌≡◌, ◌++◌}
use Rattle.lk_infer.specs.Refusals.{constraints_of}
use Rattle.lk_infer.specs.Walked.{places_of}
use Rattle.lk_infer.proofs.constraints.push_steps.Given as goal

abbrev pub invariant-loop-step : goal.invariant-loop-step
invariant-loop-step l = (l.constraints ≡ l.fn.constraints ++ constraints_of l.yielded) × (l.places ≡ places_of l.yielded)
