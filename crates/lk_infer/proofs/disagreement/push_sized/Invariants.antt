use Rattle.std.specs.Prelude.{◌≡◌, ◌++◌, map}
use Rattle.lk_infer.specs.Disagreements.{sized}
use Rattle.lk_infer.proofs.disagreement.push_sized.Given as goal

abbrev pub invariant-loop-equation : goal.invariant-loop-equation
invariant-loop-equation l = l.constraints ≡ l.fn.constraints ++ map sized l.yielded
