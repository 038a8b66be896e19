use Rattle.std.proofs.Common.{◌≡◌, drop}
use Rattle.serde_json.specs.View.{view}
use Rattle.lk_tables.specs.Choices.{all_some}
use Rattle.lk_tables.specs.Reading.{table_of}
use Rattle.lk_tables.proofs.Lists.{behind}
use Rattle.lk_tables.proofs.rows.tables_of.Given as goal

abbrev pub invariant-loop-table : goal.invariant-loop-table
invariant-loop-table l = behind l.all (all_some (table_of (view l.file)) (drop l.table-index l.tables)) ≡ all_some (table_of (view l.fn.file)) l.fn.tables
