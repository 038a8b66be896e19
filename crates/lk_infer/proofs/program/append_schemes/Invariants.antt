use Rattle.std.specs.Prelude.{◌≡◌, ◌++◌}
use Rattle.lk_infer.proofs.program.append_schemes.Given as goal

abbrev pub invariant-loop-scheme : goal.invariant-loop-scheme
invariant-loop-scheme l = l.schemes ≡ l.fn.schemes ++ l.yielded
