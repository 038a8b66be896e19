use Rattle.std.proofs.Common.{◌≡◌, drop}
use Rattle.lk_index.specs.Places.{each_with, gather, gather_all, lambdas_of, seen, shown}
use Rattle.lk_ast.specs.declared.declaration.FunDef.{FunDef}
use Rattle.lk_index.proofs.places.lambdas.Given as goal

abbrev pub invariant-loop-function : goal.invariant-loop-function
invariant-loop-function l = gather_all (each_with (λ (f : FunDef). gather f.body) (shown (drop l.function-index l.functions))) (seen l.found) ≡ lambdas_of (shown l.functions)
