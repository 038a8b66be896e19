use Rattle.std.proofs.Common.{◌≡◌, drop}
use Rattle.serde_json.specs.View.{view}
use Rattle.lk_tables.specs.Choices.{all_some}
use Rattle.lk_tables.specs.Reading.{cell_of}
use Rattle.lk_tables.proofs.Lists.{behind}
use Rattle.lk_tables.proofs.rows.read_cells.Given as goal

abbrev pub invariant-loop-column : goal.invariant-loop-column
invariant-loop-column l = behind l.cells (all_some (cell_of (view l.value)) (drop l.column-index l.columns)) ≡ all_some (cell_of (view l.fn.value)) l.fn.columns
