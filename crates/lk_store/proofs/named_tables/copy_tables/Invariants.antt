use Rattle.std.proofs.Common.{◌≡◌, ◌++◌, map}
use Rattle.lk_store.specs.Listed.{listed, shown}
use Rattle.lk_store.proofs.named_tables.copy_tables.Given as goal

abbrev pub invariant-loop-name : goal.invariant-loop-name
invariant-loop-name l = listed l.copies ++ map shown l.name-iterator ≡ listed l.tables
