use Rattle.std.proofs.Common.{◌≡◌, map, drop}
use Rattle.lk_ast.specs.declared.declaration.FunDef.{FunDef}
use Rattle.lk_scope.specs.Names.{bind_all}
use Rattle.lk_names.specs.Programs.{functions_fault}
use Rattle.lk_names.proofs.program.functions.Given as goal

abbrev pub invariant-loop-one : goal.invariant-loop-one
invariant-loop-one l =
    (functions_fault l.declared l.globals (drop l.one-index l.list) ≡ functions_fault l.initial.declared l.globals l.list)
    × (bind_all (map (λ (f : FunDef). f.name) (drop l.one-index l.list)) l.declared ≡ bind_all (map (λ (f : FunDef). f.name) l.list) l.initial.declared)
