use Rattle.std.specs.Iterator.Adapters.{rev_source}
use Rattle.std.specs.Slice.Iter.{iter_rest}
use Rattle.lk_equations.proofs.Tabling.{AreLeft}
use Rattle.lk_equations.proofs.tables.Tables.of.Given as goal

abbrev pub invariant-loop-decl : goal.invariant-loop-decl
invariant-loop-decl l = AreLeft l.tables (iter_rest (rev_source l.decl-iterator)) l.program.decls
