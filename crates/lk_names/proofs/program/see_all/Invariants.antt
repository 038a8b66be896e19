use Rattle.std.proofs.Common.{◌≡◌, map, drop}
use Rattle.lk_ast.specs.declared.declaration.FunDef.{FunDef}
use Rattle.lk_scope.specs.Names.{bind_all}
use Rattle.lk_names.proofs.program.see_all.Given as goal

abbrev pub invariant-loop-one : goal.invariant-loop-one
invariant-loop-one l = bind_all (map (λ (f : FunDef). f.name) (drop l.one-index l.list)) l.seen ≡ bind_all (map (λ (f : FunDef). f.name) l.list) l.initial.seen
