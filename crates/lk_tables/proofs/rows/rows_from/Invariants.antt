use Rattle.std.proofs.Common.{◌≡◌, drop, map}
use Rattle.serde_json.specs.View.{view}
use Rattle.lk_tables.specs.Choices.{all_some}
use Rattle.lk_tables.specs.Reading.{row_of}
use Rattle.lk_tables.proofs.Lists.{behind}
use Rattle.lk_tables.proofs.rows.rows_from.Given as goal

abbrev pub invariant-loop-value : goal.invariant-loop-value
invariant-loop-value l = behind l.rows (all_some (row_of l.columns) (map view (drop l.value-index l.values))) ≡ all_some (row_of l.fn.columns) (map view l.fn.values)
