use Rattle.std.proofs.Common.{◌≡◌, find, length}
use Rattle.std.specs.BTreeMap.{get_by_text}
use Rattle.std.specs.Option.{option_or}
use Rattle.lk_inline.specs.Tabled.{is_table}
use Rattle.lk_types.specs.Rows.{Label}
use Rattle.lk_inline.proofs.tables.tables_by_name.Given as goal

abbrev pub invariant-loop-table : goal.invariant-loop-table
invariant-loop-table l = (x : Label) → option_or (find (is_table x) l.left) (get_by_text l.map x) ≡ find (is_table x) l.initial.left

abbrev pub decreases-loop-table : goal.decreases-loop-table
decreases-loop-table l = length l.left
