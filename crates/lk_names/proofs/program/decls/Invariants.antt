use Rattle.std.proofs.Common.{◌≡◌, drop}
use Rattle.lk_scope.specs.Names.{no_names}
use Rattle.lk_names.specs.Programs.{decls_fault, no_globals}
use Rattle.lk_names.proofs.program.decls.Given as goal

abbrev pub invariant-loop-one : goal.invariant-loop-one
invariant-loop-one l = decls_fault l.declared l.globals (drop l.one-index l.list) ≡ decls_fault no_names no_globals l.list
