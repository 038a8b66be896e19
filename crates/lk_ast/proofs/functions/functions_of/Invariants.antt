use Rattle.std.proofs.Common.{◌≡◌, ◌++◌, drop, map}
use Rattle.std.specs.List.{flat_map}
use Rattle.lk_ast.specs.Functions.{functions_in, functions_of}
use Rattle.lk_ast.proofs.functions.functions_of.Given as goal

abbrev pub invariant-loop-decl : goal.invariant-loop-decl
invariant-loop-decl l = map (λ f. f.now) l.functions ++ flat_map functions_in (drop l.decl-index l.decl-items) ≡ functions_of l.program
