use Rattle.std.proofs.Common.{◌≡◌, take}
use Rattle.std.specs.List.{flat_map}
use Rattle.lk_join.specs.Reports.{entry_line}
use Rattle.lk_join.proofs.text.lines_of_entries.Given as goal

abbrev pub invariant-loop-entry : goal.invariant-loop-entry
invariant-loop-entry l = l.text ≡ flat_map entry_line (take l.entry-index l.entries)
