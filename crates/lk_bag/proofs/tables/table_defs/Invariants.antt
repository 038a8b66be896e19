use Rattle.std.proofs.Common.{◌≡◌, ◌++◌, drop, flat_map, map}
use Rattle.lk_ast.specs.Tables.{table_def, table_defs, tables_in}
use Rattle.lk_bag.proofs.tables.table_defs.Given as goal

abbrev pub invariant-loop-decl : goal.invariant-loop-decl
invariant-loop-decl l = l.defs ++ map table_def (flat_map tables_in (drop l.decl-index l.program.decls)) ≡ table_defs l.program
