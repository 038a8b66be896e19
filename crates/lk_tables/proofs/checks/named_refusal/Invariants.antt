use Rattle.std.proofs.Common.{◌≡◌, drop}
use Rattle.serde_json.specs.View.{view}
use Rattle.lk_tables.specs.Choices.{first_some}
use Rattle.lk_tables.specs.Named.{own_refusal, shown}
use Rattle.lk_tables.proofs.checks.named_refusal.Given as goal

abbrev pub invariant-loop-table : goal.invariant-loop-table
invariant-loop-table l = first_some (own_refusal (view l.value)) (shown (drop l.table-index l.tables)) ≡ first_some (own_refusal (view l.fn.value)) (shown l.fn.tables)
