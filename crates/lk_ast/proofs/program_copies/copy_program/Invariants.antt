use Rattle.std.proofs.Common.{◌≡◌, take}
use Rattle.lk_ast.proofs.program_copies.copy_program.Given as goal

abbrev pub invariant-loop-decl : goal.invariant-loop-decl
invariant-loop-decl l = l.decls ≡ take l.decl-index l.decl-items
