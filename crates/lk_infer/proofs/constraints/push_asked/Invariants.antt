use Rattle.std.specs.Prelude.{◌≡◌, ◌++◌, map}
use Rattle.lk_infer.specs.Walked.{asked}
use Rattle.lk_infer.proofs.constraints.push_asked.Given as goal

abbrev pub invariant-loop-ty : goal.invariant-loop-ty
invariant-loop-ty l = l.constraints ≡ l.fn.constraints ++ map asked l.yielded
