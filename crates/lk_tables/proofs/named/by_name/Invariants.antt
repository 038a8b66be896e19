use Rattle.std.proofs.Common.{take}
use Rattle.lk_tables.specs.Named.{FindsNamed}
use Rattle.lk_tables.proofs.named.by_name.Given as goal

abbrev pub invariant-loop-table : goal.invariant-loop-table
invariant-loop-table l = FindsNamed l.named (take l.table-index l.tables)
