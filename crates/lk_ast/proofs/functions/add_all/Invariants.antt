use Rattle.std.proofs.Common.{◌≡◌, ◌++◌, drop, map}
use Rattle.lk_ast.proofs.functions.add_all.Given as goal

abbrev pub invariant-loop-function : goal.invariant-loop-function
invariant-loop-function l = map (λ f. f.now) l.functions ++ drop l.function-index l.more ≡ map (λ f. f.now) l.initial.functions ++ l.more
