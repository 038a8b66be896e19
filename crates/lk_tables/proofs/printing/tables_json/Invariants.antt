use Rattle.std.proofs.Common.{◌≡◌, true, take}
use Rattle.serde_json.specs.View.{members_view}
use Rattle.std.specs.List.{list_all}
use Rattle.lk_tables.specs.Words.{table_fits_words}
use Rattle.lk_tables.proofs.Entries.{HasEntries}
use Rattle.lk_tables.proofs.printing.tables_json.Given as goal

abbrev pub invariant-loop-table : goal.invariant-loop-table
invariant-loop-table l = HasEntries (take l.table-index l.tables) (members_view l.members.entries) × (list_all table_fits_words (take l.table-index l.tables) ≡ true)
