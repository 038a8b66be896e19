-- The rows in scope as a list of generators with their rows, the innermost last.
use Rattle.std.specs.Prelude.{List, [], ◌∷◌}
use Rattle.lk_exec.specs.declared.scope.Bound.{Bound}
use Rattle.lk_sql.specs.Meaning.{Scope, no_rows, with_row}

-- these rows over those that are there
abbrev pub entered : List Bound → Scope → Scope
entered [] scope = scope
entered (bound ∷ bounds) scope = entered bounds (with_row bound.number bound.row.now scope)

abbrev pub scope_of : List Bound → Scope
scope_of bounds = entered bounds no_rows
