use Rattle.std.proofs.Common.{◌≡◌, map}
use Rattle.lk_scope.specs.Scoped.{scoped_decl}
use Rattle.lk_scope.proofs.program.scoped.Given as goal

abbrev pub invariant-loop-decl : goal.invariant-loop-decl
invariant-loop-decl l = l.decls ≡ map scoped_decl l.yielded
