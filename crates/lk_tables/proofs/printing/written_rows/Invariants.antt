use Rattle.std.proofs.Common.{◌≡◌, true, All, take, map}
use Rattle.serde_json.specs.View.{view}
use Rattle.serde_json.specs.Written.{compact_text}
use Rattle.std.specs.List.{list_all}
use Rattle.lk_tables.specs.Words.{cells_fit_words}
use Rattle.lk_tables.specs.Printing.{row_data}
use Rattle.lk_tables.specs.declared.printing.WrittenRow.{WrittenRow}
use Rattle.lk_tables.proofs.printing.written_rows.Given as goal

abbrev pub invariant-loop-row : goal.invariant-loop-row
invariant-loop-row l =
    (map {A = WrittenRow} (λ one. view one.row) l.written.items ≡ map row_data (take l.row-index l.rows))
    × All {X = WrittenRow} (λ one. one.text ≡ compact_text (view one.row)) l.written.items
    × (list_all cells_fit_words (take l.row-index l.rows) ≡ true)
