use Rattle.std.specs.Prelude.{◌≡◌}
use Rattle.lk_infer.specs.Disagreements.{all_said}
use Rattle.lk_infer.proofs.disagreement.all_said.Given as goal

abbrev pub invariant-loop-step : goal.invariant-loop-step
invariant-loop-step l = l.equations ≡ all_said l.yielded
