use Rattle.std.proofs.Common.{◌≡◌, drop}
use Rattle.lk_exec.specs.Writings.{no_tables}
use Rattle.lk_sql.specs.Change.{set_to}
use Rattle.lk_exec.proofs.changes.new_value.Given as goal

abbrev pub invariant-loop-set : goal.invariant-loop-set
invariant-loop-set l = set_to no_tables l.params l.row (drop l.set-index l.sets) l.cell.label l.cell.value ≡ set_to no_tables l.params l.row l.sets l.cell.label l.cell.value
