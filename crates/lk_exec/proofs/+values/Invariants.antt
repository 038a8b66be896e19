use Rattle.std.proofs.Common.{◌≡◌, ℕ, ◌+◌, ◌*◌, drop, map}
use Rattle.std.specs.List.{flat_map, list_any}
use Rattle.lk_ast.specs.Tables.{rows_of}
use Rattle.lk_exec.specs.Scopes.{scope_of}
use Rattle.lk_exec.specs.Selected.{meets}
use Rattle.lk_sql.specs.Meaning.{has_row, rows}
use Rattle.lk_exec.proofs.Chosen.{choices}
use Rattle.lk_exec.proofs.+values.Given as goal

-- each part has less room than what it stands in
abbrev level : ℕ → ℕ
level room = room * 8

abbrev pub decreases-values::value : goal.decreases-values::value
decreases-values::value l = level l.room

abbrev pub decreases-values::operated : goal.decreases-values::operated
decreases-values::operated l = level l.room + 4

abbrev pub decreases-values::choice : goal.decreases-values::choice
decreases-values::choice l = level l.room + 4

abbrev pub decreases-values::holds : goal.decreases-values::holds
decreases-values::holds l = level l.room + 1

abbrev pub decreases-values::exists : goal.decreases-values::exists
decreases-values::exists l = level l.room + 4

abbrev pub decreases-values::gives_row : goal.decreases-values::gives_row
decreases-values::gives_row l = level l.room + 3

abbrev pub decreases-choices::is_met : goal.decreases-choices::is_met
decreases-choices::is_met l = level l.room + 2

abbrev pub invariant-values::exists-loop-select : goal.invariant-values::exists-loop-select
invariant-values::exists-loop-select l =
    has_row (map (λ select. rows (rows_of l.over.tables.now) l.over.params.now select (scope_of l.scope)) (drop l.select-index l.selects))
    ≡ has_row (map (λ select. rows (rows_of l.over.tables.now) l.over.params.now select (scope_of l.scope)) l.selects)

abbrev pub invariant-choices::is_met-loop-row : goal.invariant-choices::is_met-loop-row
invariant-choices::is_met-loop-row l =
    (l.inner ≡ l.scope)
    × (list_any (meets (rows_of l.over.tables.now) l.over.params.now l.condition) (flat_map (choices (rows_of l.over.tables.now) l.others l.from.var (scope_of l.scope)) (drop l.row-index l.rows))
    ≡ list_any (meets (rows_of l.over.tables.now) l.over.params.now l.condition) (flat_map (choices (rows_of l.over.tables.now) l.others l.from.var (scope_of l.scope)) l.rows))
