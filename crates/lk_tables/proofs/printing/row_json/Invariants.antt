use Rattle.std.proofs.Common.{◌≡◌, true, take, map}
use Rattle.serde_json.specs.View.{members_view}
use Rattle.lk_ast.specs.JsonText.{members_of}
use Rattle.std.specs.List.{list_all}
use Rattle.lk_tables.specs.Words.{fits_word}
use Rattle.lk_tables.specs.Printing.{cell_entry}
use Rattle.lk_tables.proofs.printing.row_json.Given as goal

abbrev pub invariant-loop-cell : goal.invariant-loop-cell
invariant-loop-cell l =
    (members_view l.members.entries ≡ members_of (map cell_entry (take l.cell-index l.cell-items)))
    × (list_all (λ cell. fits_word cell.value) (take l.cell-index l.cell-items) ≡ true)
